-- The tokens of a text under upstream's rules, where a lone `-` is no symbol: each token that
-- begins with `-` is a literal. Only the laws about texts that are accepted under those rules use
-- these.
use Rattle.std.specs.Prelude.{◌≡◌, ℕ, ◌-◌, List, [], ◌∷◌, true, false, length, Some, None}
use Rattle.isle_base.specs.Bytes.{form_feed as form_feed_byte, left_parenthesis, right_parenthesis, semicolon, commercial_at}
use Rattle.isle_base.specs.Literals.{Literal}
use Rattle.isle_base.specs.Spellings.{begins_symbol, in_symbol}
use Rattle.isle_base.specs.Skips.{begins_with, Longest, Skip, Inside, opens}
use Rattle.isle_base.specs.Token.{Tok, lparen, rparen, symbol, integer, at_sign, Lexeme, Ending, end, fault}

abbrev pub UpstreamSpelling : List ℕ → Tok → List ℕ → Type 0
UpstreamSpelling text lparen rest = (text ≡ left_parenthesis ∷ rest) × (opens text ≡ false)
UpstreamSpelling text rparen rest = text ≡ right_parenthesis ∷ rest
UpstreamSpelling text at_sign rest = text ≡ commercial_at ∷ rest
UpstreamSpelling text (symbol name) rest = (begins_with begins_symbol text ≡ true) × Longest in_symbol text name rest
UpstreamSpelling text (integer value) rest = Literal text (Some value) rest

pub data UpstreamFaulty : List ℕ → Type 0 where
  unclosed : {text inner : List ℕ} → text ≡ left_parenthesis ∷ semicolon ∷ inner → ((rest : List ℕ) → Inside inner rest → ⊥) → UpstreamFaulty text
  form_feed : {text after : List ℕ} → text ≡ form_feed_byte ∷ after → UpstreamFaulty text
  literal : {text rest : List ℕ} → Literal text None rest → UpstreamFaulty text

abbrev pub UpstreamLexes : ℕ → List ℕ → List Lexeme → Ending → Type 0
UpstreamLexes size text [] end = Skip text []
UpstreamLexes size text [] (fault offset) = (from : List ℕ) × Skip text from × UpstreamFaulty from × (offset ≡ size - length from)
UpstreamLexes size text (x ∷ xs) ending =
    (from : List ℕ) × (after : List ℕ) × Skip text from × UpstreamSpelling from x.token after
    × (x.offset ≡ size - length from) × (x.after ≡ size - length after) × UpstreamLexes size after xs ending

abbrev pub upstream_lexes : List ℕ → List Lexeme → Ending → Type 0
upstream_lexes text tokens ending = UpstreamLexes (length text) text tokens ending
