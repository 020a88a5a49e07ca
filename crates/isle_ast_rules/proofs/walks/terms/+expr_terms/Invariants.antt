use Rattle.std.proofs.Common.{drop}
use Rattle.std.specs.List.{FoldsTo}
use Rattle.isle_ast_rules.specs.TermHeads.{CalledAtHead, expression_list_heads, let_list_heads}
use Rattle.isle_ast_rules.specs.TreeView.{expression_list_of, expressions_of, let_list_of, single_lets_of}
use Rattle.isle_ast_rules.proofs.walks.terms.+expr_terms.Given as goal

-- where the calls at the expressions to come end, the calls at all expressions end
abbrev pub invariant-exprs_terms-loop-expr : goal.invariant-exprs_terms-loop-expr
invariant-exprs_terms-loop-expr g l =
    goal.F-IsAlwaysCallable g l.f
    × ((last : _) → FoldsTo (CalledAtHead g.F.FnMut) l.f (expression_list_heads (expression_list_of (expressions_of (drop l.expr-index l.expr-items)))) last
    → FoldsTo (CalledAtHead g.F.FnMut) l.fn.f (expression_list_heads (expression_list_of (expressions_of l.expr-items))) last)

-- and of the values of a `let`
abbrev pub invariant-values_terms-loop-def : goal.invariant-values_terms-loop-def
invariant-values_terms-loop-def g l =
    goal.F-IsAlwaysCallable g l.f
    × ((last : _) → FoldsTo (CalledAtHead g.F.FnMut) l.f (let_list_heads (let_list_of (single_lets_of (drop l.def-index l.def-items)))) last
    → FoldsTo (CalledAtHead g.F.FnMut) l.fn.f (let_list_heads (let_list_of (single_lets_of l.def-items))) last)
