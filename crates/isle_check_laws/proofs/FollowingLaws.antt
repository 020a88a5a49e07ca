-- Equalities that follow from others hold where these do.
use Rattle.std.proofs.Common.{◌≡◌, ℕ, List, [], ◌∷◌, ◌++◌, Bool, true, false, refl, sym, ap, ◌∙◌, if◌then◌else◌}
use Rattle.std.specs.List.{list_all}
use Rattle.isle_check_places.specs.Places.{Place, same_place}
use Rattle.isle_check_places.specs.Settling.{EqualityNode}
use Rattle.isle_check_places.specs.Following.{JoinNode, join, stands_for, joins_after, are_joined, all_follow}
use Rattle.isle_check_laws.specs.PlaceValues.{value_at, AreEqual}
use Rattle.isle_check_laws.specs.Worlds.{World}
use Rattle.isle_check_overlaps.proofs.Booleans.{and_first, and_second}
use Rattle.isle_check_overlaps.proofs.Equality.{place_is}

module _ {V : Type 0} (w : World V) (input : ℕ → V) where
  -- the value at each of these places is that of the one that stands for it
  abbrev Stand : List JoinNode → Type 0
  Stand [] = Unit {0}
  Stand (j ∷ js) = (value_at w input j.from ≡ value_at w input j.to) × Stand js

  stand_last : (js : List JoinNode) (j : JoinNode) → Stand js → value_at w input j.from ≡ value_at w input j.to → Stand (js ++ j ∷ [])
  stand_last [] j held same = (same, tt)
  stand_last (i ∷ js) j held same = (held.0, stand_last js j held.1 same)

  one_stands : (b : Bool) (at : Place) (j : JoinNode) → same_place at j.from ≡ b → value_at w input j.from ≡ value_at w input j.to →
      value_at w input (if b then j.to else at) ≡ value_at w input at
  one_stands true at j same h = sym h ∙ ap (value_at w input) (sym (place_is at j.from same))
  one_stands false at j other h = refl

  all_stand : (js : List JoinNode) (at : Place) → Stand js → value_at w input (stands_for js at) ≡ value_at w input at
  all_stand [] at held = refl
  all_stand (j ∷ js) at held =
      all_stand js (if same_place at j.from then j.to else at) held.1 ∙ one_stands (same_place at j.from) at j refl held.0

  joins_stand : (js : List JoinNode) (es : List EqualityNode) → Stand js → AreEqual w input es → Stand (joins_after js es)
  joins_stand js [] held equal = held
  joins_stand js (e ∷ es) held equal =
      let next : JoinNode = join (stands_for js e.left) (stands_for js e.right) in
      joins_stand (js ++ next ∷ []) es (stand_last js next held (all_stand js e.left held ∙ (equal.0 ∙ sym (all_stand js e.right held)))) equal.1

  joined_equal : (js : List JoinNode) (es : List EqualityNode) → Stand js → list_all (are_joined js) es ≡ true → AreEqual w input es
  joined_equal js [] held all = tt
  joined_equal js (e ∷ es) held all = (
    sym (all_stand js e.left held)
        ∙ (ap (value_at w input) (place_is (stands_for js e.left) (stands_for js e.right) (and_first (are_joined js e) (list_all (are_joined js) es) all))
        ∙ all_stand js e.right held),
    joined_equal js es held (and_second (are_joined js e) (list_all (are_joined js) es) all),
  )

  pub following_law : (es from : List EqualityNode) → all_follow es from ≡ true → AreEqual w input from → AreEqual w input es
  following_law es from h equal = joined_equal (joins_after [] from) es (joins_stand [] from tt equal) h
