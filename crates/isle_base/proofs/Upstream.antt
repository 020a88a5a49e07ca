-- What was a token before a lone `-` was a symbol is one now.
use Rattle.std.proofs.Common.{ℕ, List, [], ◌∷◌, length}
use Rattle.isle_base.specs.UpstreamLexing.{UpstreamSpelling, UpstreamLexes, upstream_lexes}
use Rattle.isle_base.specs.Lexing.{Lexes, lexes}
use Rattle.isle_base.specs.Spellings.{Spelling}
use Rattle.isle_base.specs.Token.{Tok, lparen, rparen, symbol, integer, at_sign, Lexeme, end}
use Rattle.isle_base.proofs.Minus.{plain_here}

upstream_spelling : (text : List ℕ) (token : Tok) (rest : List ℕ) → UpstreamSpelling text token rest → Spelling text token rest
upstream_spelling text lparen rest p = p
upstream_spelling text rparen rest p = p
upstream_spelling text at_sign rest p = p
upstream_spelling text (symbol name) rest p = (plain_here text p.0, p.1)
upstream_spelling text (integer value) rest p = p

upstream_tokens : (size : ℕ) (text : List ℕ) (tokens : List Lexeme) → UpstreamLexes size text tokens end → Lexes size text tokens end
upstream_tokens size text [] l = l
upstream_tokens size text (x ∷ xs) l =
    (l.0, l.1, l.2, upstream_spelling l.0 x.token l.1 l.3, l.4, l.5, upstream_tokens size l.1 xs l.6)

pub upstream_stays : (text : List ℕ) (tokens : List Lexeme) → upstream_lexes text tokens end → lexes text tokens end
upstream_stays text tokens l = upstream_tokens (length text) text tokens l
