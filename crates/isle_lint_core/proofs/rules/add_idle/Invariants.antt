use Rattle.std.proofs.Common.{◌≡◌, ◌++◌, drop}
use Rattle.isle_ast_rules.specs.TreeView.{conditions_of, expression_of}
use Rattle.isle_lint_core.specs.Names.{names_at}
use Rattle.isle_lint_core.specs.Unused.{idle}
use Rattle.isle_lint_core.specs.Uses.{uses_after}
use Rattle.isle_lint_core.proofs.rules.add_idle.Given as goal

abbrev pub invariant-loop-name : goal.invariant-loop-name
invariant-loop-name l =
    names_at l.found.items ++ idle (names_at l.written) (names_at (drop l.name-index l.own)) (uses_after (conditions_of l.after) (expression_of l.expr))
    ≡ names_at l.fn.found.items ++ idle (names_at l.written) (names_at l.own) (uses_after (conditions_of l.after) (expression_of l.expr))
