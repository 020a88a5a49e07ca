-- Two nodes spelt at the front of one list of tokens are one.
use Rattle.std.proofs.Common.{◌≡◌, List, sym, ◌∙◌}
use Rattle.isle_base.specs.Place.{Placed}
use Rattle.isle_ast_rules.specs.Tree.{PatternNode, Expression}
use Rattle.isle_ast_rules.specs.ExpressionGrammar.{SpellsExpression}
use Rattle.isle_ast_rules.specs.PatternGrammar.{SpellsPattern}
use Rattle.isle_parser_rules.proofs.Reading.Expressions.{expression_complete}
use Rattle.isle_parser_rules.proofs.Reading.Patterns.{pattern_complete}
use Rattle.isle_parser_cursor.proofs.Readers.{Goes, done_is}

pub one_pattern : (p q : PatternNode) (all i j : List Placed) → Goes i → Goes j → SpellsPattern p all i → SpellsPattern q all j → (p ≡ q) × (i ≡ j)
one_pattern p q all i j goes_i goes_j h k = done_is p q i j (sym (pattern_complete p all i goes_i h) ∙ pattern_complete q all j goes_j k)

pub one_expression : (x y : Expression) (all i j : List Placed) → SpellsExpression x all i → SpellsExpression y all j → (x ≡ y) × (i ≡ j)
one_expression x y all i j h k = done_is x y i j (sym (expression_complete x all i h) ∙ expression_complete y all j k)
