-- What is made of what is in parentheses, with the closing one after it.
use Rattle.std.proofs.Common.{◌≡◌, false, List, Option, Some, None, refl}
use Rattle.std.specs.Prelude.{codes}
use Rattle.isle_base_source.specs.declared.pos.Pos.{Pos}
use Rattle.isle_base.specs.Place.{Placed}
use Rattle.isle_base.specs.Token.{Tok}
use Rattle.isle_parser_cursor.specs.Reading.{◌>>=◌, expect, flag, is_rparen}
use Rattle.isle_parser_cursor.specs.Reading.{closed}
use Rattle.isle_parser_rules.specs.ExpressionReaders.{expression, expression_inside}
use Rattle.isle_parser_rules.specs.RuleReaders.{expression_part, expression_behind, match_or_expression, test_or_expression}

-- what was read, with the tokens after a token
abbrev behind : {A : Type 0} → A → Tok × List Placed → Option (A × List Placed)
behind a rest = Some (a, rest.1)

-- what was read, with the tokens after `)`
abbrev shut : {A : Type 0} → A × List Placed → Option (A × List Placed)
shut x = expect is_rparen x.1 >>= behind x.0

-- what is made of what was read
abbrev made_of : {A B : Type 0} → (A → B) → A × List Placed → Option (B × List Placed)
made_of f x = Some (f x.0, x.1)

made_behind : {A B : Type 0} (f : A → B) (a : A) (token : Option (Tok × List Placed)) → (token >>= behind (f a)) ≡ ((token >>= behind a) >>= made_of f)
made_behind f a None = refl
made_behind f a (Some x) = refl

made : {A B : Type 0} (f : A → B) (read : Option (A × List Placed)) → ((read >>= made_of f) >>= shut) ≡ ((read >>= shut) >>= made_of f)
made f None = refl
made f (Some x) = made_behind f x.0 (expect is_rparen x.1)

-- neither `if-let` nor `if`
pub part_behind : (place : Pos) (all one two : List Placed) → flag (codes "if-let") all ≡ Some (false, one) → flag (codes "if") one ≡ Some (false, two) → closed (match_or_expression place) all ≡ expression_behind place two
unfolding closed match_or_expression test_or_expression
part_behind place all one two a b = rw (a, b) (made expression_part (expression_inside place expression two))
