-- The pairs of rules that overlap, told as stars.
use Rattle.std.specs.Prelude.{ℕ, zero, suc, List, [], ◌∷◌, ◌++◌, ◌==◌, Bool, ◌||◌, not, length, map, nat_le, if◌then◌else◌}
use Rattle.std.specs.List.{filter, flat_map}
use Rattle.isle_check_overlaps.specs.Candidates.{CandidateNode, overlap}

-- two rules that overlap
pub record PairNode : Type 0 where
  pub first : CandidateNode
  pub second : CandidateNode

abbrev pub pair : CandidateNode → CandidateNode → List PairNode
pair a b = if overlap a b then record { first = a; second = b } ∷ [] else []

-- those of a rule with the rules before it
abbrev pub pairs_before : (earlier : List CandidateNode) → CandidateNode → List PairNode
pairs_before earlier b = flat_map (λ a. pair a b) earlier

abbrev pub pairs_after : (earlier : List CandidateNode) → List CandidateNode → List PairNode
pairs_after earlier [] = []
pairs_after earlier (b ∷ bs) = pairs_before earlier b ++ pairs_after (earlier ++ b ∷ []) bs

-- the pairs of rules that overlap
abbrev pub pairs : List CandidateNode → List PairNode
pairs cs = pairs_after [] cs

abbrev pub touches : (number : ℕ) → PairNode → Bool
touches number p = p.first.number == number || p.second.number == number

-- how many rules overlap with a rule
abbrev pub degree : List PairNode → (number : ℕ) → ℕ
degree ps number = length (filter (touches number) ps)

-- the rule that overlaps with most, of the first so many rules; of equals the last one
abbrev pub top : List PairNode → (count : ℕ) → ℕ
top ps zero = 0
top ps (suc n) = if nat_le (degree ps (top ps n)) (degree ps n) then n else top ps n

-- a rule with those that it overlaps with
pub record StarNode : Type 0 where
  pub center : ℕ
  pub others : List CandidateNode

abbrev pub other_than : (number : ℕ) → PairNode → CandidateNode
other_than number p = if p.first.number == number then p.second else p.first

abbrev pub star : (number : ℕ) → List PairNode → StarNode
star number ps = record { center = number; others = map (other_than number) (filter (touches number) ps) }

abbrev pub without : (number : ℕ) → List PairNode → List PairNode
without number ps = filter (λ p. not (touches number p)) ps

-- the rule that overlaps with most, then the same without it, and so on, at most `steps` of them
abbrev pub stars : (steps count : ℕ) → List PairNode → List StarNode
stars zero count ps = []
stars (suc n) count [] = []
stars (suc n) count (p ∷ ps) =
    star (top (p ∷ ps) count) (p ∷ ps) ∷ stars n count (without (top (p ∷ ps) count) (p ∷ ps))
