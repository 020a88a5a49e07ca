-- How places go on from another one.
use Rattle.std.specs.Prelude.{List, [], ◌∷◌, Bool, true, false, Option, None, Some, if◌then◌else◌}
use Rattle.std.specs.List.{list_any}
use Rattle.isle_check_places.specs.Places.{StepNode, each, Place, same_step, ConstrainedNode}

-- the step of a place that is behind those of another one, if it begins with these and goes on
abbrev pub next_step : (at place : Place) → Option StepNode
next_step [] [] = None
next_step [] (s ∷ more) = Some s
next_step (a ∷ more) [] = None
next_step (a ∷ more) (s ∷ others) = if same_step a s then next_step more others else None

abbrev pub is_each : Option StepNode → Bool
is_each (Some each) = true
is_each _ = false

-- some constrained place goes on with each of several answers
abbrev pub goes_on_with_each : List ConstrainedNode → (at : Place) → Bool
goes_on_with_each cs at = list_any (λ c. is_each (next_step at c.at)) cs
