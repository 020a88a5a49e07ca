-- Where `_` may be put before a name, and a line above a list.
use Rattle.std.specs.Prelude.{ℕ, ◌-◌, List, [], ◌∷◌, Bool, true, false, ◌&&◌, ◌||◌, ◌==◌, Option, None, Some, length, slice_get, take, if◌then◌else◌}
use Rattle.std.specs.List.{suffix_len}
use Rattle.isle_base.specs.Bytes.{carriage_return, dollar, left_parenthesis, line_feed, space, tab, underscore}
use Rattle.isle_base.specs.Skips.{begins_with, is_blank}
use Rattle.isle_lsp_text.specs.Positions.{is_line_end}

-- a byte that tells what a name is where it begins one: `_` one that need not be used, and `$` a constant
abbrev pub is_mark : ℕ → Bool
is_mark b = b == underscore || b == dollar

-- a byte behind which a name stands apart from the token before: a blank or `(`
abbrev pub is_apart : ℕ → Bool
is_apart b = is_blank b || b == left_parenthesis

abbrev pub is_apart_from : Option ℕ → Bool
is_apart_from None = true
is_apart_from (Some b) = is_apart b

-- whether such a byte is right before an offset, or none is
abbrev pub stands_apart : List ℕ → (offset : ℕ) → Bool
stands_apart text offset = let before : List ℕ = take offset text in is_apart_from (slice_get before (length before - 1))

abbrev pub is_line_feed : ℕ → Bool
is_line_feed b = b == line_feed

abbrev pub is_indent : ℕ → Bool
is_indent b = b == space || b == tab

-- how many of these bytes come before the blanks at their end
abbrev pub indent_start : List ℕ → ℕ
indent_start before = length before - suffix_len is_indent before

abbrev pub is_end_of_line : Option ℕ → Bool
is_end_of_line None = true
is_end_of_line (Some b) = is_line_end b

-- whether a line begins behind these bytes
abbrev pub ends_line : List ℕ → Bool
ends_line before = is_end_of_line (slice_get before (length before - 1))

-- where the line of an offset begins, if nothing but blanks is before the offset on it
abbrev pub line_of : List ℕ → (offset : ℕ) → Option ℕ
line_of text offset = let start : ℕ = indent_start (take offset text) in if ends_line (take start text) then Some start else None

-- whether the first LF of a text follows a CR
abbrev pub has_crlf : List ℕ → Bool
has_crlf [] = false
has_crlf (b ∷ bs) = if b == line_feed then false else (b == carriage_return && begins_with is_line_feed bs) || has_crlf bs

-- the line end that a text has: CR LF or LF, as its first line does
abbrev pub line_end : List ℕ → List ℕ
line_end text = if has_crlf text then carriage_return ∷ line_feed ∷ [] else line_feed ∷ []
