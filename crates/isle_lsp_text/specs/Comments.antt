-- The comments above a place: lines of line comments alone, outside block comments, and the blanks of its own line. A line
-- ends with LF, and a line comment with LF or CR, as in the text's tokens.
use Rattle.std.specs.Prelude.{◌≡◌, ℕ, ◌-◌, List, [], ◌∷◌, ◌++◌, Bool, true, false, ◌&&◌, ◌||◌, ◌==◌, drop, length, min, replicate, take, if◌then◌else◌}
use Rattle.isle_base.specs.Bytes.{tab, line_feed, carriage_return, space, left_parenthesis, semicolon}
use Rattle.isle_base.specs.Skips.{Inside, Longest, in_line, opens}
use Rattle.isle_lsp_text.specs.declared.comments.Line.{Line}
use Rattle.isle_lsp_text.specs.declared.comments.Line.TheVariants.{Blank, Comment, Commented, Other}

-- The text with its block comments covered: each byte of one is a `(`, and so no end of a line, no blank, and no comment. Where one
-- does not end, the rest of the text is covered. In a line comment `(;` begins none.
pub data IsCovered : (text covered : List ℕ) → Type 0 where
  nothing : IsCovered [] []
  block_comment : {text inner rest covered : List ℕ} → text ≡ left_parenthesis ∷ semicolon ∷ inner → Inside inner rest → IsCovered rest covered
      → IsCovered text (replicate (length text - length rest) left_parenthesis ++ covered)
  unended : {text inner : List ℕ} → text ≡ left_parenthesis ∷ semicolon ∷ inner → ((rest : List ℕ) → Inside inner rest → ⊥)
      → IsCovered text (replicate (length text) left_parenthesis)
  line_comment : {text inner line rest covered : List ℕ} → text ≡ semicolon ∷ inner → Longest in_line inner line rest → IsCovered rest covered
      → IsCovered text (semicolon ∷ line ++ covered)
  byte : {text rest covered : List ℕ} (b : ℕ) → text ≡ b ∷ rest → opens text ≡ false → (b == semicolon) ≡ false → IsCovered rest covered
      → IsCovered text (b ∷ covered)

-- what covers a text from one offset to another, whatever covers the rest
abbrev pub Covers : List ℕ → (from to : ℕ) → (part : List ℕ) → Type 0
Covers text from to part = (rest : List ℕ) → IsCovered (drop to text) rest → IsCovered (drop from text) (part ++ rest)

-- the contents of a line after one more byte of it
abbrev pub line_with : Line → ℕ → Line
line_with Blank b = if b == semicolon then Comment else (if b == space || b == tab || b == carriage_return then Blank else Other)
line_with Comment b = if b == carriage_return then Commented else Comment
line_with Commented b = if b == semicolon then Comment else (if b == space || b == tab || b == carriage_return then Commented else Other)
line_with Other b = Other

-- a line of comments has ended, and a new one begins; any other line is none
abbrev pub line_ended : Line → Line
line_ended Blank = Other
line_ended Comment = Blank
line_ended Commented = Blank
line_ended Other = Other

abbrev pub is_blank : Line → Bool
is_blank Blank = true
is_blank Comment = false
is_blank Commented = false
is_blank Other = false

-- whether these bytes are lines of comments and then blanks, where this stands on their first line so far
abbrev pub go_on : Line → List ℕ → Bool
go_on line [] = is_blank line
go_on line (b ∷ bs) = go_on (if b == line_feed then line_ended line else line_with line b) bs

-- the longest end of a text that is lines of comments and then blanks; whether a line begins with the text
unfoldable pub comments : Bool → List ℕ → List ℕ
comments begins [] = []
comments begins (b ∷ bs) = if begins && go_on Blank (b ∷ bs) then b ∷ bs else comments (b == line_feed) bs

-- where the comments above an offset begin, in a text whose block comments are covered
abbrev pub comments_start : List ℕ → ℕ → ℕ
comments_start covered offset = let end : ℕ = min offset (length covered) in end - length (comments true (take end covered))

-- Here the comments above an offset of a text begin.
abbrev pub IsCommentsStart : List ℕ → (offset start : ℕ) → Type 0
IsCommentsStart text offset start = (covered : List ℕ) × IsCovered text covered × (start ≡ comments_start covered offset)

-- ---- a walk over the lines above

-- the contents of the line after a byte
abbrev pub line_after : Line → ℕ → Line
line_after line b = if b == line_feed then Blank else line_with line b

-- the start of the comment lines after a byte, with this offset after it
abbrev pub start_after : (start : ℕ) → Line → (b next : ℕ) → ℕ
start_after start Blank b next = if b == line_feed then next else start
start_after start Comment b next = start
start_after start Commented b next = start
start_after start Other b next = if b == line_feed then next else start
