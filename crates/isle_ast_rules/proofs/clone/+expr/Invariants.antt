use Rattle.std.proofs.Common.{◌≡◌, take}
use Rattle.isle_ast_rules.specs.TreeView.{expressions_of, single_lets_of}
use Rattle.isle_ast_rules.proofs.clone.+expr.Given as goal

abbrev pub invariant-copy_exprs-loop-expr : goal.invariant-copy_exprs-loop-expr
invariant-copy_exprs-loop-expr l = expressions_of l.copies.items ≡ expressions_of (take l.expr-index l.expr-items)

abbrev pub invariant-copy_lets-loop-def : goal.invariant-copy_lets-loop-def
invariant-copy_lets-loop-def l = single_lets_of l.copies.items ≡ single_lets_of (take l.def-index l.def-items)
