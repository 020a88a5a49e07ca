-- The lines of a text, counted from 0. A LF is the last byte of its line.
use Rattle.std.specs.Prelude.{ℕ, ◌+◌, ◌-◌, ◌==◌, nat_lt, Bool, if◌then◌else◌, List, [], ◌∷◌, length, take, count_by, slice_index, slice_index_or, slice_range}
use Rattle.isle_base_source.specs.Bytes.{line_feed}

-- the line of an offset: the number of LFs before it
abbrev pub line : List ℕ → ℕ → ℕ
line text offset = count_by (λ b. b == line_feed) (take offset text)

-- the offset after each LF, in order, if the text's first byte has this offset
abbrev pub line_ends_from : ℕ → List ℕ → List ℕ
line_ends_from at [] = []
line_ends_from at (b ∷ text) =
    if b == line_feed then (at + 1) ∷ line_ends_from (at + 1) text else line_ends_from (at + 1) text

abbrev pub line_ends : List ℕ → List ℕ
line_ends text = line_ends_from 0 text

-- the offset of a line's first byte: the first line begins the text, and the others begin after a
-- LF
abbrev pub line_begin : List ℕ → ℕ → ℕ
line_begin text number = if number == 0 then 0 else slice_index (line_ends text) (number - 1)

-- the offset after a line: after its LF, or the end of the text
abbrev pub line_end : List ℕ → ℕ → ℕ
line_end text number = slice_index_or (line_ends text) number (length text)

-- the bytes of a line, with its LF if it has one
abbrev pub line_text : List ℕ → ℕ → List ℕ
line_text text number = slice_range text (line_begin text number) (line_end text number)

-- whether a line ends with a LF: all but the last one do
abbrev pub has_line_feed : List ℕ → ℕ → Bool
has_line_feed text number = nat_lt number (length (line_ends text))

-- the LF that a line lacks
abbrev pub missing_line_feed : List ℕ → ℕ → List ℕ
missing_line_feed text number = if has_line_feed text number then [] else line_feed ∷ []

-- the number of bytes before an offset on its line; an offset past the text is on the last line
abbrev pub column : List ℕ → ℕ → ℕ
column text offset = offset - line_begin text (line text offset)
