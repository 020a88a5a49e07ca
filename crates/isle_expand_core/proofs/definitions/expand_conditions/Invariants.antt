use Rattle.std.proofs.Common.{◌≡◌, Some, drop}
use Rattle.isle_ast_rules.specs.TreeView.{conditions_of}
use Rattle.isle_expand_core.specs.Definitions.{both, expand_conditions}
use Rattle.isle_expand_core.specs.Views.{macros_of}
use Rattle.isle_expand_core.proofs.definitions.expand_conditions.Given as goal

abbrev pub invariant-loop-condition : goal.invariant-loop-condition
invariant-loop-condition l =
    both (Some (conditions_of l.made.items)) (expand_conditions (conditions_of (drop l.condition-index l.conditions)) (macros_of l.macros))
    ≡ expand_conditions (conditions_of l.conditions) (macros_of l.macros)
