use Rattle.std.proofs.Common.{◌≡◌, ◌++◌, drop}
use Rattle.std.specs.List.{flat_map}
use Rattle.isle_ast_rules.specs.TreeView.{conditions_of}
use Rattle.isle_expand_warnings.specs.Placed.{all_placed, condition_placed}
use Rattle.isle_expand_warnings.proofs.placed.add_condition_terms.Given as goal

abbrev pub invariant-loop-condition : goal.invariant-loop-condition
invariant-loop-condition l =
    all_placed l.found.items ++ flat_map condition_placed (conditions_of (drop l.condition-index l.conditions))
    ≡ all_placed l.fn.found.items ++ flat_map condition_placed (conditions_of l.conditions)
