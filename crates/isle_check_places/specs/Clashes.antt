-- Places that have two constraints.
use Rattle.std.specs.Prelude.{List, [], ◌∷◌, ◌++◌, Option, None, Some, if◌then◌else◌}
use Rattle.isle_check_places.specs.Places.{ConstraintNode, same_constraint, ConstrainedNode}
use Rattle.isle_check_places.specs.Settling.{constraint_at}

-- two constraints of one place that differ
pub record ClashNode : Type 0 where
  pub first : ConstraintNode
  pub second : ConstraintNode

abbrev pub clash : Option ConstraintNode → ConstraintNode → List ClashNode
clash None c = []
clash (Some first) c = if same_constraint first c then [] else record { first = first; second = c } ∷ []

-- the constraints that differ from the first one of their place, behind those before
abbrev pub clashes_after : (before : List ConstrainedNode) → List ConstrainedNode → List ClashNode
clashes_after before [] = []
clashes_after before (c ∷ cs) = clash (constraint_at before c.at) c.constraint ++ clashes_after (before ++ c ∷ []) cs
