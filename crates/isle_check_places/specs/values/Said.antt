-- What constraints say of the value at a place by itself: that it is of a variant or a literal, and what extractors it is given to.
use Rattle.std.specs.Prelude.{ℕ, ℤ, List, [], ◌∷◌, ◌++◌, Bool, not, Option, None, Some, map}
use Rattle.std.specs.List.{filter, flat_map}
use Rattle.std.specs.Str.{bytes_eq}
use Rattle.isle_check_places.specs.Places.{StepNode, extracted, Place, ConstraintNode, of_variant, of_bool, of_int, of_constant, present, ConstrainedNode}
use Rattle.isle_check_places.specs.Settling.{constraint_at}
use Rattle.isle_check_places.specs.values.Next.{next_step}

pub data SaidNode : Type 0 where
  said_variant : (variant : List ℕ) → (count : ℕ) → SaidNode
  said_bool : Bool → SaidNode
  said_int : ℤ → SaidNode
  said_constant : (name : List ℕ) → SaidNode
  said_extractor : (term : List ℕ) → SaidNode

-- that an answer is there is said by its extractor
abbrev pub said_by : Option ConstraintNode → List SaidNode
said_by None = []
said_by (Some (of_variant v n)) = said_variant v n ∷ []
said_by (Some (of_bool b)) = said_bool b ∷ []
said_by (Some (of_int i)) = said_int i ∷ []
said_by (Some (of_constant name)) = said_constant name ∷ []
said_by (Some present) = []

abbrev pub extractor_by : Option StepNode → List (List ℕ)
extractor_by (Some (extracted g)) = g ∷ []
extractor_by _ = []

-- the extractors by which places go on from this one
abbrev pub extractors_from : List ConstrainedNode → (at : Place) → List (List ℕ)
extractors_from cs at = flat_map (λ c. extractor_by (next_step at c.at)) cs

-- each text once, in the order in which they are first
abbrev pub distinct : List (List ℕ) → List (List ℕ)
distinct [] = []
distinct (t ∷ ts) = t ∷ filter (λ other. not (bytes_eq other t)) (distinct ts)

-- first what is asked of the value itself
abbrev pub said_at : List ConstrainedNode → (at : Place) → List SaidNode
said_at cs at = said_by (constraint_at cs at) ++ map said_extractor (distinct (extractors_from cs at))
