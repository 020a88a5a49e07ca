-- Constraints without a clash have none when equal places are settled.
use Rattle.std.proofs.Common.{◌≡◌, ℕ, zero, suc, List, [], ◌∷◌, ◌++◌, length, nat_lt, Bool, true, false, Option, Some, None, refl, ◌∙◌, subst, if◌then◌else◌}
use Rattle.isle_check_places.specs.Clashes.{clashes_after}
use Rattle.isle_check_places.specs.Places.{Place, ConstraintNode, ConstrainedNode, same_constraint, same_place}
use Rattle.isle_check_places.specs.Settling.{constraint_at, constrained, EqualityNode, SweepNode, opened, clashing, swept_by, swept, sweep, SettledNode, settled, unequal, endless, most_equal, begun, settle}
use Rattle.isle_check_laws.proofs.ClashLaws.{satisfied, clashes_none, append_satisfies, after_counts, here}
use Rattle.isle_check_laws.proofs.ComparisonLaws.{more_satisfies}

abbrev Clear : List ConstrainedNode → Type 0
Clear cs = clashes_after [] cs ≡ []

clear_more : (cs : List ConstrainedNode) (at : Place) (c : ConstraintNode) → Clear cs → constraint_at cs at ≡ None → Clear (cs ++ constrained at c ∷ [])
clear_more cs at c h none =
    let all = cs ++ constrained at c ∷ [] in
    clashes_none (constraint_at all) all
    (append_satisfies (constraint_at all) cs (constrained at c) (more_satisfies cs cs (constrained at c ∷ []) (satisfied cs h))
    (after_counts cs (constrained at c ∷ []) at none ∙ here (constrained at c) []))

both_clear : (s : SweepNode) (e : EqualityNode) (c : ConstraintNode) (b : Bool) → Clear s.constraints → Clear (if b then opened s e c else clashing s).constraints
both_clear s e c true h = h
both_clear s e c false h = h

by_clear : (s : SweepNode) (e : EqualityNode) (o p : Option ConstraintNode) → constraint_at s.constraints e.left ≡ o → constraint_at s.constraints e.right ≡ p →
    Clear s.constraints → Clear (swept_by o p s e).constraints
by_clear s e None None is_o is_p h = h
by_clear s e (Some c) None is_o is_p h = clear_more s.constraints e.right c h is_p
by_clear s e None (Some d) is_o is_p h = clear_more s.constraints e.left d h is_o
by_clear s e (Some c) (Some d) is_o is_p h = both_clear s e c (same_constraint c d) h

swept_clear : (s : SweepNode) (e : EqualityNode) (b : Bool) → Clear s.constraints →
    Clear (if b then s else swept_by (constraint_at s.constraints e.left) (constraint_at s.constraints e.right) s e).constraints
swept_clear s e true h = h
swept_clear s e false h = by_clear s e (constraint_at s.constraints e.left) (constraint_at s.constraints e.right) refl refl h

sweep_clear : (s : SweepNode) (es : List EqualityNode) → Clear s.constraints → Clear (sweep s es).constraints
sweep_clear s [] h = h
sweep_clear s (e ∷ es) h = sweep_clear (swept s e) es (swept_clear s e (same_place e.left e.right) h)

abbrev IsClear : SettledNode → Type 0
IsClear (settled cs es) = Clear cs
IsClear unequal = Unit {0}
IsClear endless = Unit {0}

after_clear : (next : SettledNode) (s : SweepNode) (clashes opens many : Bool) → IsClear next → Clear s.constraints →
    IsClear (if clashes then unequal else if opens then (if many then endless else next) else settled s.constraints s.equal)
after_clear next s true opens many n h = tt
after_clear next s false true true n h = tt
after_clear next s false true false n h = n
after_clear next s false false many n h = h

settle_clear : (n : ℕ) (cs : List ConstrainedNode) (es : List EqualityNode) → Clear cs → IsClear (settle n cs es)
settle_clear zero cs es h = tt
settle_clear (suc n) cs es h =
    let s = sweep (begun cs) es in
    let m = sweep_clear (begun cs) es h in
    after_clear (settle n s.constraints s.equal) s s.clashes s.is_opened (nat_lt most_equal (length s.equal)) (settle_clear n s.constraints s.equal m) m

pub settled_clear : (n : ℕ) (cs : List ConstrainedNode) (es : List EqualityNode) (ds : List ConstrainedNode) (fs : List EqualityNode) → clashes_after [] cs ≡ [] →
    settle n cs es ≡ settled ds fs → clashes_after [] ds ≡ []
settled_clear n cs es ds fs h is = subst IsClear is (settle_clear n cs es h)
