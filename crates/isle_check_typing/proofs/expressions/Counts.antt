-- The number of the expressions of a list.
use Rattle.std.proofs.Common.{◌≡◌, List, [], ◌∷◌, length, refl, arith}
use Rattle.isle_ast_rules.specs.declared.Expr.{Expr}
use Rattle.isle_ast_rules.specs.TreeView.{expression_list_of, expressions_of}
use Rattle.isle_check_typing.specs.expressions.ExpressionTypes.{count_expressions}

pub count_of : (es : List Expr) → count_expressions (expression_list_of (expressions_of es)) ≡ length es
count_of [] = refl
count_of (e ∷ es) = omega (arith, count_of es)
