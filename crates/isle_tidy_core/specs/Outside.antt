-- What holds at each byte of a text outside its block comments.
use Rattle.std.specs.Prelude.{◌≡◌, ℕ, List, [], ◌∷◌, ◌++◌, Bool, true, false, ◌&&◌, ◌||◌, not, ◌==◌}
use Rattle.isle_base.specs.Bytes.{tab, line_feed, carriage_return, space, left_parenthesis, semicolon}
use Rattle.isle_base.specs.Skips.{Inside, Longest, in_line, opens}

-- it holds of the bytes from any of the line's on
abbrev pub HoldsInLine : (List ℕ → Bool) → (line rest : List ℕ) → Type 0
HoldsInLine holds line rest = (before after : List ℕ) (b : ℕ) → line ≡ before ++ b ∷ after → holds (b ∷ (after ++ rest)) ≡ true

-- It holds of the bytes from each on that is in no block comment: a text is bytes, line comments, in which `(;` begins
-- no comment, and block comments.
pub data Outside (holds : List ℕ → Bool) : List ℕ → Type 0 where
  nothing : Outside holds []
  block_comment : {text inner rest : List ℕ} → text ≡ left_parenthesis ∷ semicolon ∷ inner → Inside inner rest → Outside holds rest → Outside holds text
  line_comment : {text inner line rest : List ℕ} → text ≡ semicolon ∷ inner → Longest in_line inner line rest → HoldsInLine holds (semicolon ∷ line) rest
      → Outside holds rest → Outside holds text
  byte : {text rest : List ℕ} (b : ℕ) → text ≡ b ∷ rest → opens text ≡ false → (b == semicolon) ≡ false → holds text ≡ true → Outside holds rest → Outside holds text

-- a line, or the text, ends here
abbrev pub ends_line : List ℕ → Bool
ends_line [] = true
ends_line (b ∷ _) = b == line_feed || b == carriage_return

-- no space and no tab is here before the end of a line
abbrev pub ends_without_blank : List ℕ → Bool
ends_without_blank [] = true
ends_without_blank (b ∷ rest) = not ((b == space || b == tab) && ends_line rest)

-- no LF is here before three more: three empty lines
abbrev pub has_few_lines : List ℕ → Bool
has_few_lines (a ∷ b ∷ c ∷ d ∷ _) = not (a == line_feed && b == line_feed && c == line_feed && d == line_feed)
has_few_lines _ = true
