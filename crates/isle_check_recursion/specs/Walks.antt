-- Walks through a graph. `next` has the places that a walk can go on to from each place.
use Rattle.std.specs.Prelude.{◌≡◌, ℕ, zero, suc, ◌<◌, List, [], ◌∷◌, Bool, true, false, ◌&&◌, nat_lt, length, get_or}
use Rattle.std.specs.List.{list_all}

-- each walk from a place has fewer steps than this
abbrev pub ends_within : ℕ → List (List ℕ) → ℕ → Bool
ends_within zero next place = false
ends_within (suc n) next place = nat_lt place (length next) && list_all (ends_within n next) (get_or next place [])

-- each walk from a place comes to an end: it has fewer steps than there are places
abbrev pub ends_from : List (List ℕ) → ℕ → Bool
ends_from next place = ends_within (length next) next place

-- a flag for each place: whether each walk from it comes to an end
pub record AreEnds (next : List (List ℕ)) (ends : List Bool) : Type 0 where
  pub count : length ends ≡ length next
  pub each : (place : ℕ) → get_or ends place false ≡ ends_from next place

-- all these places are marked
abbrev pub all_end : List Bool → List ℕ → Bool
all_end ends places = list_all (λ place. get_or ends place false) places

-- how many places are marked, and how many are not
abbrev pub ended : List Bool → ℕ
ended [] = 0
ended (true ∷ ends) = suc (ended ends)
ended (false ∷ ends) = ended ends

abbrev pub unended : List Bool → ℕ
unended [] = 0
unended (true ∷ ends) = unended ends
unended (false ∷ ends) = suc (unended ends)

-- each walk from a marked place has fewer steps than there are marked places, or as many
pub record IsSound (next : List (List ℕ)) (ends : List Bool) : Type 0 where
  pub count : length ends ≡ length next
  pub each : (place : ℕ) → get_or ends place false ≡ true → ends_within (ended ends) next place ≡ true

-- a place below the bound whose next places are all marked is marked
abbrev pub IsClosed : List (List ℕ) → List Bool → ℕ → Type 0
IsClosed next ends bound =
    (place : ℕ) → place < bound → all_end ends (get_or next place []) ≡ true → get_or ends place false ≡ true
