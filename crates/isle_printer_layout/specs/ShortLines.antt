-- The lengths of lines that contain whole lists.
use Rattle.std.specs.Prelude.{◌≡◌, ℕ, ◌+◌, ◌≤◌, ◌==◌, ◌&&◌, List, [], ◌∷◌, ◌++◌, length, if◌then◌else◌}
use Rattle.isle_base.specs.Bytes.{left_parenthesis, line_feed, right_parenthesis, space}
use Rattle.isle_base.specs.Skips.{begins_with}
use Rattle.isle_ast_names.specs.Writable.{Each}

-- one more byte before the first line
abbrev pub before_first : ℕ → List (List ℕ) → List (List ℕ)
before_first b [] = (b ∷ []) ∷ []
before_first b (line ∷ lines) = (b ∷ line) ∷ lines

-- The lines of a text, each without the LF that ends it. The last one may have none.
abbrev pub text_lines : List ℕ → List (List ℕ)
text_lines [] = []
text_lines (b ∷ bs) = if b == line_feed then [] ∷ text_lines bs else before_first b (text_lines bs)

-- the number of spaces at the start of a line
abbrev pub leading_spaces : List ℕ → ℕ
leading_spaces [] = 0
leading_spaces (b ∷ bs) = if b == space then 1 + leading_spaces bs else 0

-- the number of empty lists on a line: a `(` with a `)` right after it
abbrev pub empty_lists : List ℕ → ℕ
empty_lists [] = 0
empty_lists (b ∷ bs) =
    (if b == left_parenthesis && begins_with (λ next. next == right_parenthesis) bs then 1 else 0)
    + empty_lists bs

-- A line with a `(` before a `)` may contain a whole list. It has at most as many bytes as the
-- width, its indentation, and one more for each empty list on it.
abbrev pub IsShortLine : ℕ → List ℕ → Type 0
IsShortLine width line =
    (before within after : List ℕ) → line ≡ before ++ left_parenthesis ∷ within ++ right_parenthesis ∷ after
    → length line ≤ width + leading_spaces line + empty_lists line

abbrev pub HasShortLines : ℕ → List ℕ → Type 0
HasShortLines width text = Each (IsShortLine width) (text_lines text)
