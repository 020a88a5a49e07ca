-- Tokens of code as tokens of definitions.
use Rattle.std.specs.Prelude.{string_bytes}
use Rattle.isle_base.specs.declared.token.Token.{Token}
use Rattle.isle_base.specs.declared.token.Token.TheVariants.{LParen, RParen, Symbol, Int, At}
use Rattle.isle_base.specs.declared.token.TokenRef.{TokenRef}
use Rattle.isle_base.specs.declared.token.TokenRef.TheVariants as refs
use Rattle.isle_base.specs.Token.{Tok, lparen, rparen, symbol, integer, at_sign}

abbrev pub token_of : Token → Tok
token_of LParen = lparen
token_of RParen = rparen
token_of (Symbol text) = symbol (string_bytes text)
token_of (Int value) = integer value
token_of At = at_sign

-- a token that borrows its text
abbrev pub token_of_ref : TokenRef → Tok
token_of_ref refs.LParen = lparen
token_of_ref refs.RParen = rparen
token_of_ref (refs.Symbol text) = symbol text.now
token_of_ref (refs.Int value) = integer value
token_of_ref refs.At = at_sign
