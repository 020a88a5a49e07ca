use Rattle.std.proofs.Common.{◌≡◌, drop}
use Rattle.isle_ast_rules.specs.TreeView.{expression_list_of, expressions_of, let_list_of, single_lets_of}
use Rattle.isle_ast_rules.specs.WritableDeciders.{are_writable_expressions, are_writable_lets}
use Rattle.isle_ast_rules.proofs.writability.expressions.+writable.Given as goal

abbrev pub invariant-are_writable_exprs-loop-expr : goal.invariant-are_writable_exprs-loop-expr
invariant-are_writable_exprs-loop-expr l =
    are_writable_expressions (expression_list_of (expressions_of (drop l.expr-index l.expr-items))) ≡ are_writable_expressions (expression_list_of (expressions_of l.expr-items))

abbrev pub invariant-are_writable_lets-loop-def : goal.invariant-are_writable_lets-loop-def
invariant-are_writable_lets-loop-def l =
    are_writable_lets (let_list_of (single_lets_of (drop l.def-index l.def-items))) ≡ are_writable_lets (let_list_of (single_lets_of l.def-items))
