use Rattle.std.proofs.Common.{◌≡◌, ◌++◌, drop}
use Rattle.std.specs.List.{flat_map}
use Rattle.isle_ast_rules.specs.TreeView.{conditions_of}
use Rattle.isle_lint_core.specs.Names.{names_at}
use Rattle.isle_lint_core.specs.Unused.{unused}
use Rattle.isle_lint_core.proofs.rules.add_conditions_unused.Given as goal

abbrev pub invariant-loop-condition : goal.invariant-loop-condition
invariant-loop-condition l =
    names_at l.found.items ++ flat_map (λ c. unused c.expr) (conditions_of (drop l.condition-index l.conditions))
    ≡ names_at l.fn.found.items ++ flat_map (λ c. unused c.expr) (conditions_of l.conditions)
