-- The bytes between tokens: blanks, line comments and block comments. Each relation goes from the
-- remaining bytes, `text`, to the bytes after the skipped ones, `rest`.
use Rattle.std.specs.Prelude.{◌≡◌, ℕ, List, [], ◌∷◌, ◌++◌, Bool, true, false, ◌&&◌, ◌||◌, not, ◌==◌}
use Rattle.std.specs.List.{list_all}
use Rattle.isle_base.specs.Bytes.{tab, line_feed, carriage_return, space, left_parenthesis, right_parenthesis, semicolon}

-- the first byte is of this kind; false at the end of the text
abbrev pub begins_with : (ℕ → Bool) → List ℕ → Bool
begins_with kind [] = false
begins_with kind (b ∷ _) = kind b

-- The longest run of bytes of this kind: each byte of the run is of the kind, and the next one is
-- not.
pub record Longest (kind : ℕ → Bool) (text run rest : List ℕ) : Type 0 where
  pub split : text ≡ run ++ rest
  pub each : list_all kind run ≡ true
  pub stops : begins_with kind rest ≡ false

-- `(;` is here
abbrev pub opens : List ℕ → Bool
opens [] = false
opens (a ∷ []) = false
opens (a ∷ b ∷ _) = a == left_parenthesis && b == semicolon

-- `;)` is here
abbrev pub closes : List ℕ → Bool
closes [] = false
closes (a ∷ []) = false
closes (a ∷ b ∷ _) = a == semicolon && b == right_parenthesis

-- The inside of a block comment: its units, and the `;)` that ends it. A unit is a whole block
-- comment, or one byte at which there is neither `(;` nor `;)`.
pub data Inside : List ℕ → List ℕ → Type 0 where
  ends : {text rest : List ℕ} → text ≡ semicolon ∷ right_parenthesis ∷ rest → Inside text rest
  byte : {text after rest : List ℕ} (b : ℕ) → text ≡ b ∷ after → opens text ≡ false → closes text ≡ false → Inside after rest → Inside text rest
  nested : {text inner after rest : List ℕ} → text ≡ left_parenthesis ∷ semicolon ∷ inner → Inside inner after → Inside after rest → Inside text rest

-- space, tab, LF or CR
unfoldable pub is_blank : ℕ → Bool
is_blank b = b == space || b == tab || b == line_feed || b == carriage_return

-- a byte that doesn't end a line: any but LF and CR
unfoldable pub in_line : ℕ → Bool
in_line b = not (b == line_feed || b == carriage_return)

-- Any number of blanks, line comments and block comments. A line comment is `;` and the bytes up to
-- the end of the line or of the text. A block comment is `(;`, its units and `;)`.
pub data Skip : List ℕ → List ℕ → Type 0 where
  nothing : {text rest : List ℕ} → text ≡ rest → Skip text rest
  blank : {text after rest : List ℕ} (b : ℕ) → text ≡ b ∷ after → is_blank b ≡ true → Skip after rest → Skip text rest
  line_comment : {text inner after rest : List ℕ} (line : List ℕ) → text ≡ semicolon ∷ inner → Longest in_line inner line after → Skip after rest → Skip text rest
  block_comment : {text inner after rest : List ℕ} → text ≡ left_parenthesis ∷ semicolon ∷ inner → Inside inner after → Skip after rest → Skip text rest
