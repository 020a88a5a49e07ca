use Rattle.std.proofs.Common.{◌≡◌, ◌++◌, drop}
use Rattle.isle_ast_rules.specs.TreeView.{conditions_of, expression_of}
use Rattle.isle_lint_core.specs.Names.{names_at}
use Rattle.isle_lint_core.specs.Unused.{conditions_idle}
use Rattle.isle_lint_core.proofs.rules.add_conditions_idle.Given as goal

abbrev pub invariant-loop-i : goal.invariant-loop-i
invariant-loop-i l =
    names_at l.found.items ++ conditions_idle l.wanted (names_at l.written) (conditions_of (drop l.i l.conditions)) (expression_of l.expr)
    ≡ names_at l.fn.found.items ++ conditions_idle l.wanted (names_at l.written) (conditions_of l.conditions) (expression_of l.expr)
