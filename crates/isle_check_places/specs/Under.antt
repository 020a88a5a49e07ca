-- Where the values of patterns lie in the value of a place.
use Rattle.std.specs.Prelude.{ℕ, List, [], ◌∷◌, ◌==◌, if◌then◌else◌}
use Rattle.isle_check_places.specs.Places.{Place, argument, field, part, step_on}

-- the value itself, the arguments of the rule's term, the fields of a variant, or the parts of an answer
pub data UnderNode : Type 0 where
  same : UnderNode
  arguments : UnderNode
  fields : (variant : List ℕ) → UnderNode
  parts : UnderNode

abbrev pub place_under : UnderNode → (index : ℕ) → Place → Place
place_under same i at = at
place_under arguments i at = argument i ∷ []
place_under (fields v) i at = step_on at (field v i)
place_under parts i at = step_on at (part i)

-- an extractor of one pattern gives its value, any other the parts of its answer
abbrev pub parts_of : (count : ℕ) → UnderNode
parts_of count = if count == 1 then same else parts
