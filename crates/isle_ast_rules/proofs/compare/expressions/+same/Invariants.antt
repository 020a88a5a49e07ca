use Rattle.std.proofs.Common.{◌≡◌, drop}
use Rattle.isle_ast_rules.proofs.SameLists.{expr_lists, let_lists}
use Rattle.isle_ast_rules.proofs.compare.expressions.+same.Given as goal

abbrev pub invariant-same_exprs-loop-i : goal.invariant-same_exprs-loop-i
invariant-same_exprs-loop-i l = expr_lists (drop l.i l.exprs.items) (drop l.i l.others.items) ≡ expr_lists l.exprs.items l.others.items

abbrev pub invariant-same_let_defs-loop-i : goal.invariant-same_let_defs-loop-i
invariant-same_let_defs-loop-i l = let_lists (drop l.i l.defs.items) (drop l.i l.others.items) ≡ let_lists l.defs.items l.others.items
