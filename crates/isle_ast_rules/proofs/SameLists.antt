-- The comparison of the lists that patterns and expressions hold.
use Rattle.std.proofs.Common.{List, Bool, refl}
use Rattle.isle_ast_names.proofs.ListComparison.{AreLists}
use Rattle.isle_ast_rules.specs.declared.Pattern.{Pattern}
use Rattle.isle_ast_rules.specs.declared.Expr.{Expr}
use Rattle.isle_ast_rules.specs.declared.LetDef.{LetDef}
use Rattle.isle_ast_rules.specs.SameExpression.{same_expression, same_expressions, same_lets, same_single_let}
use Rattle.isle_ast_rules.specs.SamePattern.{same_pattern, same_patterns}
use Rattle.isle_ast_rules.specs.TreeView.{pattern_of, pattern_list_of, patterns_of, expression_of, expression_list_of, expressions_of, let_list_of, single_let_of, single_lets_of}

abbrev pub pattern_lists : List Pattern → List Pattern → Bool
pattern_lists ps qs = same_patterns (pattern_list_of (patterns_of ps)) (pattern_list_of (patterns_of qs))

pub patterns_are_lists : AreLists pattern_lists (λ p q. same_pattern (pattern_of p) (pattern_of q))
patterns_are_lists = record {
  ended = refl;
  first = λ p q ps qs. refl;
  shorter = λ q qs. refl;
  longer = λ p ps. refl;
}

abbrev pub expr_lists : List Expr → List Expr → Bool
expr_lists xs ys = same_expressions (expression_list_of (expressions_of xs)) (expression_list_of (expressions_of ys))

pub exprs_are_lists : AreLists expr_lists (λ x y. same_expression (expression_of x) (expression_of y))
exprs_are_lists = record {
  ended = refl;
  first = λ x y xs ys. refl;
  shorter = λ y ys. refl;
  longer = λ x xs. refl;
}

abbrev pub let_lists : List LetDef → List LetDef → Bool
let_lists ds es = same_lets (let_list_of (single_lets_of ds)) (let_list_of (single_lets_of es))

pub lets_are_lists : AreLists let_lists (λ d e. same_single_let (single_let_of d) (single_let_of e))
lets_are_lists = record {
  ended = refl;
  first = λ d e ds es. refl;
  shorter = λ e es. refl;
  longer = λ d ds. refl;
}
