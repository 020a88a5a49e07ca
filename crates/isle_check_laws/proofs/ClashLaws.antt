-- Constraints have no clash exactly if a valuation satisfies them.
use Rattle.std.proofs.Common.{◌≡◌, ◌↔◌, List, [], ◌∷◌, ◌++◌, Bool, true, false, Option, None, Some, refl, ap, sym, ◌∙◌, subst, append_assoc, if◌then◌else◌}
use Rattle.std.proofs.lemmas.Option.{none-some, same_Some}
use Rattle.isle_check_places.specs.Clashes.{ClashNode, clash, clashes_after}
use Rattle.isle_check_places.specs.Places.{Place, ConstraintNode, ConstrainedNode, same_constraint, same_place}
use Rattle.isle_check_places.specs.Settling.{constraint_at}
use Rattle.isle_check_laws.specs.Valuations.{Valuation, Holds, Satisfies}
use Rattle.isle_check_overlaps.proofs.Equality.{constraint_is, constraint_same, place_is, place_same}

-- the first of two lists without elements, and the second
nil_first : {A : Type 0} (xs ys : List A) → xs ++ ys ≡ [] → xs ≡ []
nil_first [] ys h = refl
nil_first (x ∷ xs) ys h = cc

nil_second : {A : Type 0} (xs ys : List A) → xs ++ ys ≡ [] → ys ≡ []
nil_second [] ys h = h
nil_second (x ∷ xs) ys h = cc

here_by : (c : ConstrainedNode) (cs : List ConstrainedNode) (b : Bool) → b ≡ true →
    (if b then Some c.constraint else constraint_at cs c.at) ≡ Some c.constraint
here_by c cs true h = refl
here_by c cs false h = cc

pub here : (c : ConstrainedNode) (cs : List ConstrainedNode) → constraint_at (c ∷ cs) c.at ≡ Some c.constraint
here c cs = here_by c cs (same_place c.at c.at) (place_same c.at)

-- what stands before counts first
pub before_counts : (before after : List ConstrainedNode) (at : Place) (d : ConstraintNode) → constraint_at before at ≡ Some d →
    constraint_at (before ++ after) at ≡ Some d
before_counts [] after at d h = absurd (none-some d h)
before_counts (b ∷ bs) after at d h = counts_by (same_place b.at at) h (λ g. before_counts bs after at d g) where
  counts_by : (s : Bool) → (if s then Some b.constraint else constraint_at bs at) ≡ Some d →
      (constraint_at bs at ≡ Some d → constraint_at (bs ++ after) at ≡ Some d) →
      (if s then Some b.constraint else constraint_at (bs ++ after) at) ≡ Some d
  counts_by true h more = h
  counts_by false h more = more h

pub after_counts : (before after : List ConstrainedNode) (at : Place) → constraint_at before at ≡ None →
    constraint_at (before ++ after) at ≡ constraint_at after at
after_counts [] after at h = refl
after_counts (b ∷ bs) after at h = counts_by (same_place b.at at) h (λ g. after_counts bs after at g) where
  counts_by : (s : Bool) → (if s then Some b.constraint else constraint_at bs at) ≡ None →
      (constraint_at bs at ≡ None → constraint_at (bs ++ after) at ≡ constraint_at after at) →
      (if s then Some b.constraint else constraint_at (bs ++ after) at) ≡ constraint_at after at
  counts_by true h more = absurd (none-some b.constraint (sym h))
  counts_by false h more = more h

agrees_by : (d c : ConstraintNode) (s : Bool) → same_constraint d c ≡ s →
    (if s then [] else record { first = d; second = c } ∷ []) ≡ (let none : List ClashNode = [] in none) → d ≡ c
agrees_by d c true is h = constraint_is d c is
agrees_by d c false is h = cc

-- without a clash, the constraint of a place is the first one of it
first_is : (before : List ConstrainedNode) (c : ConstrainedNode) (cs : List ConstrainedNode) (o : Option ConstraintNode) → constraint_at before c.at ≡ o →
    clash o c.constraint ≡ [] → constraint_at (before ++ (c ∷ cs)) c.at ≡ Some c.constraint
first_is before c cs None is h = after_counts before (c ∷ cs) c.at is ∙ here c cs
first_is before c cs (Some d) is h =
    before_counts before (c ∷ cs) c.at d is ∙ ap (λ (x : ConstraintNode). Some x) (agrees_by d c.constraint (same_constraint d c.constraint) refl h)

satisfied_behind : (before cs : List ConstrainedNode) → clashes_after before cs ≡ [] → Satisfies (constraint_at (before ++ cs)) cs
satisfied_behind before [] h = tt
satisfied_behind before (c ∷ cs) h = (
  first_is before c cs (constraint_at before c.at) refl (nil_first (clash (constraint_at before c.at) c.constraint) (clashes_after (before ++ c ∷ []) cs) h),
  subst (λ all. Satisfies (constraint_at all) cs) (append_assoc before (c ∷ []) cs)
      (satisfied_behind (before ++ c ∷ []) cs (nil_second (clash (constraint_at before c.at) c.constraint) (clashes_after (before ++ c ∷ []) cs) h)),
)

-- constraints without a clash are satisfied by the valuation that they are
pub satisfied : (cs : List ConstrainedNode) → clashes_after [] cs ≡ [] → Satisfies (constraint_at cs) cs
satisfied cs h = satisfied_behind [] cs h

-- a constraint that stands in a list that is satisfied holds
pub found_holds : (values : Valuation) (cs : List ConstrainedNode) (at : Place) (d : ConstraintNode) → Satisfies values cs → constraint_at cs at ≡ Some d →
    values at ≡ Some d
found_holds values [] at d s h = absurd (none-some d h)
found_holds values (c ∷ cs) at d s h = holds_by (same_place c.at at) refl h (λ g. found_holds values cs at d s.1 g) where
  holds_by : (b : Bool) → same_place c.at at ≡ b → (if b then Some c.constraint else constraint_at cs at) ≡ Some d →
      (constraint_at cs at ≡ Some d → values at ≡ Some d) → values at ≡ Some d
  holds_by true is h more = subst (λ p. values p ≡ Some d) (place_is c.at at is) (s.0 ∙ h)
  holds_by false is h more = more h

none_by : (d c : ConstraintNode) (s : Bool) → s ≡ true → (if s then [] else record { first = d; second = c } ∷ []) ≡ (let none : List ClashNode = [] in none)
none_by d c true h = refl
none_by d c false h = cc

no_clash : (values : Valuation) (c : ConstrainedNode) (o : Option ConstraintNode) → Holds values c → ((d : ConstraintNode) → o ≡ Some d → values c.at ≡ Some d) →
    clash o c.constraint ≡ []
no_clash values c None h found = refl
no_clash values c (Some d) h found =
    let e : d ≡ c.constraint = same_Some d c.constraint (sym (found d refl) ∙ h) in
    none_by d c.constraint (same_constraint d c.constraint) (rw e (constraint_same c.constraint))

pub append_satisfies : (values : Valuation) (cs : List ConstrainedNode) (c : ConstrainedNode) → Satisfies values cs → Holds values c → Satisfies values (cs ++ c ∷ [])
append_satisfies values [] c s h = (h, tt)
append_satisfies values (d ∷ cs) c s h = (s.0, append_satisfies values cs c s.1 h)

none_behind : (values : Valuation) (before cs : List ConstrainedNode) → Satisfies values before → Satisfies values cs → clashes_after before cs ≡ []
none_behind values before [] sb s = refl
none_behind values before (c ∷ cs) sb s =
    ap (λ (x : List ClashNode). x ++ clashes_after (before ++ c ∷ []) cs)
    (no_clash values c (constraint_at before c.at) s.0 (λ d is. found_holds values before c.at d sb is))
    ∙ none_behind values (before ++ c ∷ []) cs (append_satisfies values before c sb s.0) s.1

pub clashes_none : (values : Valuation) (cs : List ConstrainedNode) → Satisfies values cs → clashes_after [] cs ≡ []
clashes_none values cs s = none_behind values [] cs tt s

pub clash_law : (cs : List ConstrainedNode) → (clashes_after [] cs ≡ []) ↔ ((values : Valuation) × Satisfies values cs)
clash_law cs = (λ h. (constraint_at cs, satisfied cs h), λ s. clashes_none s.0 cs s.1)
