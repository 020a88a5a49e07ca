use Rattle.std.proofs.Common.{◌≡◌, ◌++◌, drop}
use Rattle.isle_ast_rules.specs.TreeView.{expression_of, expression_list_of, expressions_of, let_list_of, single_lets_of}
use Rattle.isle_lint_core.specs.Names.{names_at}
use Rattle.isle_lint_core.specs.Unused.{let_unused, list_unused}
use Rattle.isle_lint_core.specs.Uses.{uses}
use Rattle.isle_lint_core.proofs.expressions.+unused.Given as goal

-- those found, and those of the expressions to come, are all
abbrev pub invariant-add_list_unused-loop-expr : goal.invariant-add_list_unused-loop-expr
invariant-add_list_unused-loop-expr l =
    names_at l.found.items ++ list_unused (expression_list_of (expressions_of (drop l.expr-index l.expr-items)))
    ≡ names_at l.fn.found.items ++ list_unused (expression_list_of (expressions_of l.expr-items))

abbrev pub invariant-add_let_unused-loop-i : goal.invariant-add_let_unused-loop-i
invariant-add_let_unused-loop-i l =
    names_at l.found.items ++ let_unused (let_list_of (single_lets_of (drop l.i l.def-items))) (uses (expression_of l.body))
    ≡ names_at l.fn.found.items ++ let_unused (let_list_of (single_lets_of l.def-items)) (uses (expression_of l.body))
