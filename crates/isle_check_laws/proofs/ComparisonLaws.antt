-- Constraints are apart exactly if no valuation satisfies both; constraints are within others exactly if each valuation that satisfies these satisfies them.
use Rattle.std.proofs.Common.{◌≡◌, ◌↔◌, List, [], ◌∷◌, ◌++◌, Bool, true, false, not, ◌&&◌, ◌||◌, Some, refl, ap, sym, ◌∙◌, if◌then◌else◌}
use Rattle.std.proofs.lemmas.Option.{none-some, same_Some}
use Rattle.std.specs.List.{list_any}
use Rattle.isle_check_places.specs.Clashes.{clashes_after}
use Rattle.isle_check_places.specs.Comparing.{differ, apart, is_in, within}
use Rattle.isle_check_places.specs.Places.{ConstraintNode, ConstrainedNode, same_constraint, same_place}
use Rattle.isle_check_places.specs.Settling.{constraint_at}
use Rattle.isle_check_laws.specs.Valuations.{Valuation, Holds, Satisfies, HaveCommon}
use Rattle.isle_check_overlaps.proofs.Booleans.{and_first, and_second, and_true, or_first, or_second, or_false, true_first, true_second}
use Rattle.isle_check_laws.proofs.ClashLaws.{satisfied, before_counts}
use Rattle.isle_check_overlaps.proofs.Equality.{constraint_is, constraint_same, place_is, place_same}

-- P holds of each
abbrev Each : (P : ConstrainedNode → Type 0) → List ConstrainedNode → Type 0
Each P [] = Unit {0}
Each P (c ∷ cs) = P c × Each P cs

change_each : (P Q : ConstrainedNode → Type 0) (cs : List ConstrainedNode) → ((c : ConstrainedNode) → P c → Q c) → Each P cs → Each Q cs
change_each P Q [] f s = tt
change_each P Q (c ∷ cs) f s = (f c s.0, change_each P Q cs f s.1)

none_of : (test : ConstrainedNode → Bool) (cs : List ConstrainedNode) → list_any test cs ≡ false → Each (λ c. test c ≡ false) cs
none_of test [] h = tt
none_of test (c ∷ cs) h = (or_first (test c) (list_any test cs) h, none_of test cs (or_second (test c) (list_any test cs) h))

-- two constraints that hold together don't differ
agree_by : (values : Valuation) (c d : ConstrainedNode) → Holds values c → Holds values d → (b : Bool) → same_place c.at d.at ≡ b →
    (b && not (same_constraint c.constraint d.constraint)) ≡ false
agree_by values c d hc hd false is = refl
agree_by values c d hc hd true is =
    let e : c.constraint ≡ d.constraint =
    same_Some c.constraint d.constraint (sym hc ∙ (ap values (place_is c.at d.at is) ∙ hd)) in
    rw e (rw (constraint_same d.constraint) refl)

agree_each : (values : Valuation) (c : ConstrainedNode) (ds : List ConstrainedNode) → Holds values c → Satisfies values ds → list_any (λ d. differ c d) ds ≡ false
agree_each values c [] h s = refl
agree_each values c (d ∷ ds) h s =
    or_false (differ c d) (list_any (λ x. differ c x) ds) (agree_by values c d h s.0 (same_place c.at d.at) refl) (agree_each values c ds h s.1)

not_apart : (values : Valuation) (cs ds : List ConstrainedNode) → Satisfies values cs → Satisfies values ds → apart cs ds ≡ false
not_apart values [] ds s t = refl
not_apart values (c ∷ cs) ds s t =
    or_false (list_any (λ d. differ c d) ds) (apart cs ds) (agree_each values c ds s.0 t) (not_apart values cs ds s.1 t)

pub apart_excludes : (values : Valuation) (cs ds : List ConstrainedNode) → apart cs ds ≡ true → Satisfies values cs → Satisfies values ds → ⊥
apart_excludes values cs ds h s t = let e : true ≡ false = sym h ∙ not_apart values cs ds s t in cc

-- a constraint holds behind others that it doesn't differ from
same_by : (c d : ConstrainedNode) (b : Bool) → same_constraint c.constraint d.constraint ≡ b → (true && not b) ≡ false → c.constraint ≡ d.constraint
same_by c d true is h = constraint_is c.constraint d.constraint is
same_by c d false is h = cc

joined : (cs all : List ConstrainedNode) (d : ConstrainedNode) → Each (λ c. differ c d ≡ false) cs → constraint_at all d.at ≡ Some d.constraint →
    constraint_at (cs ++ all) d.at ≡ Some d.constraint
joined [] all d s h = h
joined (c ∷ cs) all d s h = joined_by (same_place c.at d.at) s.0 (joined cs all d s.1 h) where
  joined_by : (b : Bool) → (b && not (same_constraint c.constraint d.constraint)) ≡ false → constraint_at (cs ++ all) d.at ≡ Some d.constraint →
      (if b then Some c.constraint else constraint_at (cs ++ all) d.at) ≡ Some d.constraint
  joined_by true e more = ap (λ (x : ConstraintNode). Some x) (same_by c d (same_constraint c.constraint d.constraint) refl e)
  joined_by false e more = more

all_joined : (cs all ds : List ConstrainedNode) → Each (λ c. Each (λ d. differ c d ≡ false) ds) cs → Satisfies (constraint_at all) ds →
    Satisfies (constraint_at (cs ++ all)) ds
all_joined cs all [] s h = tt
all_joined cs all (d ∷ ds) s h = (
  joined cs all d (change_each (λ c. Each (λ x. differ c x ≡ false) (d ∷ ds)) (λ c. differ c d ≡ false) cs (λ c e. e.0) s) h.0,
  all_joined cs all ds (change_each (λ c. Each (λ x. differ c x ≡ false) (d ∷ ds)) (λ c. Each (λ x. differ c x ≡ false) ds) cs (λ c e. e.1) s) h.1,
)

pub more_satisfies : (cs all ds : List ConstrainedNode) → Satisfies (constraint_at all) cs → Satisfies (constraint_at (all ++ ds)) cs
more_satisfies [] all ds s = tt
more_satisfies (c ∷ cs) all ds s = (before_counts all ds c.at c.constraint s.0, more_satisfies cs all ds s.1)

pub common : (cs ds : List ConstrainedNode) → clashes_after [] cs ≡ [] → clashes_after [] ds ≡ [] → apart cs ds ≡ false → HaveCommon cs ds
common cs ds hc hd h =
    let each : Each (λ c. Each (λ d. differ c d ≡ false) ds) cs =
    change_each (λ c. list_any (λ d. differ c d) ds ≡ false) (λ c. Each (λ d. differ c d ≡ false) ds) cs (λ c. none_of (λ d. differ c d) ds)
    (none_of (λ c. list_any (λ d. differ c d) ds) cs h) in
    (constraint_at (cs ++ ds), (more_satisfies cs cs ds (satisfied cs hc), all_joined cs ds ds each (satisfied ds hd)))

apart_by : (cs ds : List ConstrainedNode) → clashes_after [] cs ≡ [] → clashes_after [] ds ≡ [] → (HaveCommon cs ds → ⊥) → (b : Bool) → apart cs ds ≡ b → b ≡ true
apart_by cs ds hc hd none true is = refl
apart_by cs ds hc hd none false is = absurd (none (common cs ds hc hd is))

pub apart_law : (cs ds : List ConstrainedNode) → clashes_after [] cs ≡ [] → clashes_after [] ds ≡ [] → (apart cs ds ≡ true) ↔ (HaveCommon cs ds → ⊥)
apart_law cs ds hc hd =
    (λ h s. apart_excludes s.0 cs ds h s.1.0 s.1.1, λ none. apart_by cs ds hc hd none (apart cs ds) refl)

-- a constraint that is one of those that hold, holds
in_holds : (values : Valuation) (c : ConstrainedNode) (ds : List ConstrainedNode) → is_in c ds ≡ true → Satisfies values ds → Holds values c
in_holds values c [] h s = cc
in_holds values c (d ∷ ds) h s =
    holds_by (same_place c.at d.at) refl (same_constraint c.constraint d.constraint) refl h (λ g. in_holds values c ds g s.1) where
      holds_by : (b : Bool) → same_place c.at d.at ≡ b → (e : Bool) → same_constraint c.constraint d.constraint ≡ e →
          ((b && e) || is_in c ds) ≡ true → (is_in c ds ≡ true → Holds values c) → Holds values c
      holds_by true p true q h more = ap values (place_is c.at d.at p) ∙ (s.0 ∙ ap (λ (x : ConstraintNode). Some x) (sym (constraint_is c.constraint d.constraint q)))
      holds_by true p false q h more = more h
      holds_by false p e q h more = more h

pub within_satisfies : (values : Valuation) (cs ds : List ConstrainedNode) → within cs ds ≡ true → Satisfies values ds → Satisfies values cs
within_satisfies values [] ds h s = tt
within_satisfies values (c ∷ cs) ds h s =
    (in_holds values c ds (and_first (is_in c ds) (within cs ds) h) s, within_satisfies values cs ds (and_second (is_in c ds) (within cs ds) h) s)

is_found : (c : ConstrainedNode) (ds : List ConstrainedNode) → constraint_at ds c.at ≡ Some c.constraint → is_in c ds ≡ true
is_found c [] h = absurd (none-some c.constraint h)
is_found c (d ∷ ds) h = found_by (same_place d.at c.at) refl h (λ g. is_found c ds g) where
  found_by : (b : Bool) → same_place d.at c.at ≡ b → (if b then Some d.constraint else constraint_at ds c.at) ≡ Some c.constraint →
      (constraint_at ds c.at ≡ Some c.constraint → is_in c ds ≡ true) → is_in c (d ∷ ds) ≡ true
  found_by true is h more =
      true_first (same_place c.at d.at && same_constraint c.constraint d.constraint) (is_in c ds)
      (and_true (same_place c.at d.at) (same_constraint c.constraint d.constraint)
      (rw (place_is d.at c.at is) (place_same c.at)) (rw (same_Some d.constraint c.constraint h) (constraint_same c.constraint)))
  found_by false is h more = true_second (same_place c.at d.at && same_constraint c.constraint d.constraint) (is_in c ds) (more h)

all_found : (cs ds : List ConstrainedNode) → Satisfies (constraint_at ds) cs → within cs ds ≡ true
all_found [] ds s = refl
all_found (c ∷ cs) ds s = and_true (is_in c ds) (within cs ds) (is_found c ds s.0) (all_found cs ds s.1)

pub within_law : (cs ds : List ConstrainedNode) → clashes_after [] ds ≡ [] →
    (within cs ds ≡ true) ↔ ((values : Valuation) → Satisfies values ds → Satisfies values cs)
within_law cs ds h =
    (λ w values s. within_satisfies values cs ds w s, λ all. all_found cs ds (all (constraint_at ds) (satisfied ds h)))
