-- The tokens of a text, and how they end.
use Rattle.std.specs.Prelude.{◌≡◌, ℕ, ◌-◌, List, [], ◌∷◌, false, length, None}
use Rattle.isle_base.specs.Bytes.{form_feed as form_feed_byte, left_parenthesis, semicolon}
use Rattle.isle_base.specs.Literals.{Literal}
use Rattle.isle_base.specs.Spellings.{is_lone_minus, Spelling}
use Rattle.isle_base.specs.Skips.{Skip, Inside}
use Rattle.isle_base.specs.Token.{Lexeme, Ending, end, fault}

-- The text is rejected here: at a `(;` that begins no whole block comment, at a form feed, or at a
-- literal without a value, unless it is a lone `-`.
pub data Faulty : List ℕ → Type 0 where
  unclosed : {text inner : List ℕ} → text ≡ left_parenthesis ∷ semicolon ∷ inner → ((rest : List ℕ) → Inside inner rest → ⊥) → Faulty text
  form_feed : {text after : List ℕ} → text ≡ form_feed_byte ∷ after → Faulty text
  literal : {text rest : List ℕ} → Literal text None rest → is_lone_minus text ≡ false → Faulty text

-- The last bytes of a text of this size are a skip, a spelling, a skip, a spelling and so on. They
-- end with a skip, or with a fault after one, where lexing stops. The offset of a place is the size
-- minus the number of bytes from there on.
abbrev pub Lexes : ℕ → List ℕ → List Lexeme → Ending → Type 0
Lexes size text [] end = Skip text []
Lexes size text [] (fault offset) = (from : List ℕ) × Skip text from × Faulty from × (offset ≡ size - length from)
Lexes size text (x ∷ xs) ending =
    (from : List ℕ) × (after : List ℕ) × Skip text from × Spelling from x.token after
    × (x.offset ≡ size - length from) × (x.after ≡ size - length after) × Lexes size after xs ending

-- these are the tokens of the text, and its ending
abbrev pub lexes : List ℕ → List Lexeme → Ending → Type 0
lexes text tokens ending = Lexes (length text) text tokens ending

-- a text has exactly one list of tokens, and one ending
abbrev pub HasOneLexing : List ℕ → Type 0
HasOneLexing text =
    ((tokens : List Lexeme) × (ending : Ending) × lexes text tokens ending)
    × ((tokens others : List Lexeme) (ending other : Ending) → lexes text tokens ending → lexes text others other → (tokens ≡ others) × (ending ≡ other))
