use Rattle.std.proofs.Common.{◌≡◌, drop}
use Rattle.isle_ast_rules.specs.TreeView.{expression_list_of, expressions_of, let_list_of, single_lets_of}
use Rattle.isle_lint_core.specs.Uses.{let_uses, list_uses}
use Rattle.isle_lint_core.proofs.expressions.+uses.Given as goal

abbrev pub invariant-list_uses-loop-expr : goal.invariant-list_uses-loop-expr
invariant-list_uses-loop-expr l =
    list_uses (expression_list_of (expressions_of (drop l.expr-index l.expr-items))) l.name
    ≡ list_uses (expression_list_of (expressions_of l.expr-items)) l.name

abbrev pub invariant-let_uses-loop-def : goal.invariant-let_uses-loop-def
invariant-let_uses-loop-def l =
    let_uses (let_list_of (single_lets_of (drop l.def-index l.defs))) l.name l.body
    ≡ let_uses (let_list_of (single_lets_of l.defs)) l.name l.body
