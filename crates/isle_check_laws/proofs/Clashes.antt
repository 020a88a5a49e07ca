-- Constraints that clash are two of one place, and differ.
use Rattle.std.proofs.Common.{◌≡◌, ◌≢◌, List, [], ◌∷◌, ◌++◌, Bool, true, false, Option, None, Some, Contains, refl, subst, append_assoc, if◌then◌else◌}
use Rattle.std.proofs.lemmas.List.Elements.{Contains-append_cases, Contains-append_left, Contains-append_right}
use Rattle.isle_check_places.specs.Clashes.{ClashNode, clash, clashes_after}
use Rattle.isle_check_places.specs.Places.{ConstrainedNode, ConstraintNode, Place, same_constraint, same_place}
use Rattle.isle_check_places.specs.Settling.{constrained, constraint_at}
use Rattle.isle_check_overlaps.proofs.Equality.{constraint_same, place_is}
use Rattle.isle_check_laws.proofs.Lists.{either, here, later, no_element, only}

-- these ask for both constraints of one place, and the two differ
pub record Clash (cs : List ConstrainedNode) (c : ClashNode) : Type 0 where
  pub at : Place
  pub first_in : Contains cs (constrained at c.first)
  pub second_in : Contains cs (constrained at c.second)
  pub differ : c.first ≢ c.second

same_constraint_in : (c d : ConstraintNode) → ◌≡◌ {A = Option ConstraintNode} (Some c) (Some d) → c ≡ d
same_constraint_in c d e = cc

found_by : (c : ConstrainedNode) (cs : List ConstrainedNode) (at : Place) (d : ConstraintNode) (b : Bool) → same_place c.at at ≡ b →
    (constraint_at cs at ≡ Some d → Contains cs (constrained at d)) →
    (if b then Some c.constraint else constraint_at cs at) ≡ Some d → Contains (c ∷ cs) (constrained at d)
found_by c cs at d true is more h =
    subst (λ p. Contains (c ∷ cs) (constrained p d)) (place_is c.at at is)
    (subst (λ e. Contains (c ∷ cs) (constrained c.at e)) (same_constraint_in c.constraint d h) (here c cs))
found_by c cs at d false is more h = later c cs (constrained at d) (more h)

-- the constraint that is found at a place is one of its
found : (cs : List ConstrainedNode) (at : Place) (d : ConstraintNode) → constraint_at cs at ≡ Some d → Contains cs (constrained at d)
found [] at d h = cc
found (c ∷ cs) at d h = found_by c cs at d (same_place c.at at) refl (found cs at d) h

differ_by : (c d : ConstraintNode) (b : Bool) → same_constraint c d ≡ b → b ≡ false → c ≢ d
differ_by c d true is h same = cc
differ_by c d false is h same = let e : same_constraint c d ≡ true = subst (λ x. same_constraint c x ≡ true) same (constraint_same c) in cc

module _ (before : List ConstrainedNode) (x : ConstrainedNode) (xs : List ConstrainedNode) where
  told : (first : ConstraintNode) → constraint_at before x.at ≡ Some first → (c : ClashNode) (b : Bool) → same_constraint first x.constraint ≡ b →
      Contains (if b then [] else record { first = first; second = x.constraint } ∷ []) c → Clash (before ++ x ∷ xs) c
  told first is c true same h = absurd (no_element c h)
  told first is c false differs h =
      let whole : Clash (before ++ x ∷ xs) (record { first = first; second = x.constraint }) =
      record {
        at = x.at;
        first_in = Contains-append_left before (x ∷ xs) (constrained x.at first) (found before x.at first is);
        second_in = Contains-append_right before (x ∷ xs) x (here x xs);
        differ = differ_by first x.constraint false differs refl;
      } in
      subst (Clash (before ++ x ∷ xs)) (only (record { first = first; second = x.constraint }) c h) whole

  at_first : (o : Option ConstraintNode) → constraint_at before x.at ≡ o → (c : ClashNode) → Contains (clash o x.constraint) c → Clash (before ++ x ∷ xs) c
  at_first None is c h = absurd (no_element c h)
  at_first (Some first) is c h = told first is c (same_constraint first x.constraint) refl h

clash_behind : (before cs : List ConstrainedNode) (c : ClashNode) → Contains (clashes_after before cs) c → Clash (before ++ cs) c
clash_behind before [] c h = absurd (no_element c h)
clash_behind before (x ∷ xs) c h =
    either (at_first before x xs (constraint_at before x.at) refl c)
    (λ more. subst (λ all. Clash all c) (append_assoc before (x ∷ []) xs) (clash_behind (before ++ x ∷ []) xs c more))
    (Contains-append_cases (clash (constraint_at before x.at) x.constraint) (clashes_after (before ++ x ∷ []) xs) c h)

pub clash_in : (cs : List ConstrainedNode) (c : ClashNode) → Contains (clashes_after [] cs) c → Clash cs c
clash_in cs c h = clash_behind [] cs c h
