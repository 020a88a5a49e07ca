use Rattle.std.proofs.Common.{◌≡◌, drop}
use Rattle.isle_ast_rules.specs.TreeView.{conditions_of, expression_of}
use Rattle.isle_lint_core.specs.Uses.{uses_after}
use Rattle.isle_lint_core.proofs.rules.uses_after.Given as goal

abbrev pub invariant-loop-condition : goal.invariant-loop-condition
invariant-loop-condition l =
    uses_after (conditions_of (drop l.condition-index l.after)) (expression_of l.expr) l.name
    ≡ uses_after (conditions_of l.after) (expression_of l.expr) l.name
