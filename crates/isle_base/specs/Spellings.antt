-- The bytes that spell each token: `text` begins with a spelling of the token, and `rest` follows.
use Rattle.std.specs.Prelude.{◌≡◌, ℕ, List, ◌∷◌, Bool, true, false, ◌&&◌, ◌||◌, not, ◌==◌, Some, drop}
use Rattle.isle_base.specs.Bytes.{form_feed, left_parenthesis, right_parenthesis, semicolon, commercial_at}
use Rattle.isle_base.specs.Literals.{begins_literal, has_minus, Literal}
use Rattle.isle_base.specs.Skips.{begins_with, Longest, is_blank, opens}
use Rattle.isle_base.specs.Token.{Tok, lparen, rparen, symbol, integer, at_sign}

-- a byte that can follow the first one of a symbol: any but `(`, `)`, `;`, `@`, form feed and
-- blanks
unfoldable pub in_symbol : ℕ → Bool
in_symbol b = not (b == left_parenthesis || b == right_parenthesis || b == semicolon || b == commercial_at
    || b == form_feed || is_blank b)

-- a byte that begins a symbol: any of these that doesn't begin a literal
unfoldable pub begins_symbol : ℕ → Bool
begins_symbol b = in_symbol b && not (begins_literal b)

-- a `-` at the end of the text, or before a byte that cannot be in a symbol; digits can. It is a
-- symbol and not a literal.
abbrev pub is_lone_minus : List ℕ → Bool
is_lone_minus text = has_minus text && not (begins_with in_symbol (drop 1 text))

-- a symbol begins here: with a byte that can begin one, or with a lone `-`
abbrev pub symbol_here : List ℕ → Bool
symbol_here text = begins_with begins_symbol text || is_lone_minus text

-- `(` before `;` begins a comment. A symbol and a literal are as long as they can be.
abbrev pub Spelling : List ℕ → Tok → List ℕ → Type 0
Spelling text lparen rest = (text ≡ left_parenthesis ∷ rest) × (opens text ≡ false)
Spelling text rparen rest = text ≡ right_parenthesis ∷ rest
Spelling text at_sign rest = text ≡ commercial_at ∷ rest
Spelling text (symbol name) rest = (symbol_here text ≡ true) × Longest in_symbol text name rest
Spelling text (integer value) rest = Literal text (Some value) rest
