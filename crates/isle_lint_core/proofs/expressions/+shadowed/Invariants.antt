use Rattle.std.proofs.Common.{◌≡◌, ◌++◌, drop}
use Rattle.isle_ast_rules.specs.TreeView.{expression_list_of, expressions_of, let_list_of, single_lets_of}
use Rattle.isle_lint_core.specs.Names.{names_at}
use Rattle.isle_lint_core.specs.Shadowed.{let_shadowed, list_shadowed}
use Rattle.isle_lint_core.specs.Shadowed.{let_names}
use Rattle.isle_lint_core.proofs.expressions.+shadowed.Given as goal

-- those found, and those of the expressions to come, are all; the names bound stay
abbrev pub invariant-add_list_shadowed-loop-expr : goal.invariant-add_list_shadowed-loop-expr
invariant-add_list_shadowed-loop-expr l = record {
  added : names_at l.found.items ++ list_shadowed (expression_list_of (expressions_of (drop l.expr-index l.expr-items))) (names_at l.fn.bound.items)
      ≡ names_at l.fn.found.items ++ list_shadowed (expression_list_of (expressions_of l.expr-items)) (names_at l.fn.bound.items);
  bound : names_at l.bound.items ≡ names_at l.fn.bound.items;
}

-- the same of the values, where each name is bound after its value
abbrev pub invariant-add_let_shadowed-loop-def : goal.invariant-add_let_shadowed-loop-def
invariant-add_let_shadowed-loop-def l = record {
  added : names_at l.found.items ++ let_shadowed (let_list_of (single_lets_of (drop l.def-index l.def-items))) (names_at l.bound.items)
      ≡ names_at l.fn.found.items ++ let_shadowed (let_list_of (single_lets_of l.def-items)) (names_at l.fn.bound.items);
  bound : names_at l.bound.items ++ let_names (let_list_of (single_lets_of (drop l.def-index l.def-items)))
      ≡ names_at l.fn.bound.items ++ let_names (let_list_of (single_lets_of l.def-items));
}
