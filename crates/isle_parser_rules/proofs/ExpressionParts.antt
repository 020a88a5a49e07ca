-- Expressions, as the code reads them.
use Rattle.std.proofs.Common.{◌≡◌, List, Some, refl, rules}
use Rattle.std.specs.Prelude.{ℤ}
use Rattle.isle_base_source.specs.declared.pos.Pos.{Pos}
use Rattle.isle_base.specs.Place.{Placed}
use Rattle.isle_ast_rules.specs.Tree.{int_expression}
use Rattle.isle_ast_rules.specs.declared.Expr.{the_lemmas}
use Rattle.isle_ast_rules.specs.declared.Expr.TheVariants.{ConstInt}
use Rattle.isle_ast_rules.specs.TreeView.{expression_of}
use Rattle.isle_parser_rules.specs.ExpressionReaders.{integer_expression, expression, expression_layer}
use Rattle.isle_parser_cursor.specs.NumberReaders.{integer_within}
use Rattle.isle_parser_rules.proofs.Reading.Expressions.{expression-unfolds}

-- an expression is its own step
pub expression_is : (all : List Placed) → expression all ≡ expression_layer expression all
expression_is all = expression-unfolds all

int_seen : (val : ℤ) (place : Pos) → expression_of (ConstInt val place) ≡ int_expression val place
int_seen val place = search (rules, the_lemmas)

-- an integer that was taken
pub int_taken : (all rest : List Placed) (val held : ℤ) (place : Pos) → held ≡ val → integer_within 127 all ≡ Some (val, rest) → integer_expression place all ≡ Some (expression_of (ConstInt held place), rest)
unfolding integer_expression
int_taken all rest val held place same e = rw (int_seen held place, same, e) refl
