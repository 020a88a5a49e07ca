-- Constraints of rules, compared.
use Rattle.std.specs.Prelude.{List, Bool, ◌&&◌, not}
use Rattle.std.specs.List.{list_all, list_any}
use Rattle.isle_check_places.specs.Places.{ConstrainedNode, same_constraint, same_place}

-- one place has two different constraints
abbrev pub differ : ConstrainedNode → ConstrainedNode → Bool
differ a b = same_place a.at b.at && not (same_constraint a.constraint b.constraint)

-- some place has different constraints: no values of the places match both
abbrev pub apart : (cs ds : List ConstrainedNode) → Bool
apart cs ds = list_any (λ c. list_any (λ d. differ c d) ds) cs

abbrev pub is_in : ConstrainedNode → List ConstrainedNode → Bool
is_in a bs = list_any (λ b. same_place a.at b.at && same_constraint a.constraint b.constraint) bs

-- each of these constraints is one of those
abbrev pub within : (cs ds : List ConstrainedNode) → Bool
within cs ds = list_all (λ c. is_in c ds) cs
