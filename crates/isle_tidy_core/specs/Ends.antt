-- The line ends of a text, and the byte order mark before it.
use Rattle.std.specs.Prelude.{◌==◌, ℕ, List, [], ◌∷◌, ◌++◌, Bool, true, ◌&&◌, ◌||◌, not, if◌then◌else◌, drop, take}
use Rattle.isle_base.specs.Bytes.{line_feed, carriage_return, left_parenthesis, semicolon}
use Rattle.isle_base.specs.Skips.{begins_with}
use Rattle.isle_tidy_core.specs.declared.ends.LineEnd.{LineEnd}
use Rattle.isle_tidy_core.specs.declared.ends.LineEnd.TheVariants.{Lf, CrLf}
use Rattle.isle_tidy_layout.specs.Entries.{Lexeme, opening, closing, at_sign, atom, line_comment, block_comment, Entry}

abbrev pub is_feed : ℕ → Bool
is_feed b = b == line_feed

abbrev pub is_no_return : ℕ → Bool
is_no_return b = not (b == carriage_return)

abbrev pub end_bytes : LineEnd → List ℕ
end_bytes Lf = line_feed ∷ []
end_bytes CrLf = carriage_return ∷ line_feed ∷ []

-- The first LF of the text decides, which may have a CR before it. Without one it is LF.
abbrev pub line_end_of : List ℕ → LineEnd
line_end_of [] = Lf
line_end_of (b ∷ bs) =
    if b == line_feed then Lf
    else (if b == carriage_return && begins_with is_feed bs then CrLf else line_end_of bs)

-- The text with this in the place of each line end: of each LF, with the CR before it, and of any other CR.
abbrev pub with_ends : LineEnd → List ℕ → List ℕ
with_ends e [] = []
with_ends e (b ∷ bs) =
    if b == line_feed then end_bytes e ++ with_ends e bs
    else (if b == carriage_return then (if begins_with is_feed bs then with_ends e bs else end_bytes e ++ with_ends e bs)
    else b ∷ with_ends e bs)

-- only a block comment holds line ends
abbrev pub lexeme_with : LineEnd → Lexeme → Lexeme
lexeme_with e opening = opening
lexeme_with e closing = closing
lexeme_with e at_sign = at_sign
lexeme_with e (atom bytes) = atom bytes
lexeme_with e (line_comment bytes) = line_comment bytes
lexeme_with e (block_comment bytes) = block_comment (with_ends e bytes)

abbrev pub entries_with : LineEnd → List Entry → List Entry
entries_with e [] = []
entries_with e (x ∷ xs) = record { gap = x.gap; lexeme = lexeme_with e x.lexeme } ∷ entries_with e xs

-- The lexer takes a byte order mark for a symbol, or for the beginning of one. Here nothing can follow it in
-- that symbol, and no gap is between: the text ends, or `(` or `;` is here.
abbrev pub stands_apart : List ℕ → Bool
stands_apart [] = true
stands_apart (b ∷ _) = b == left_parenthesis || b == semicolon

-- how many bytes at the start of the text are a mark that stands apart from what follows it
abbrev pub mark_size : List ℕ → ℕ
mark_size (a ∷ b ∷ c ∷ rest) = if a == 239 && (b == 187 && (c == 191 && stands_apart rest)) then 3 else 0
mark_size _ = 0

abbrev pub mark_of : List ℕ → List ℕ
mark_of text = take (mark_size text) text

abbrev pub body_of : List ℕ → List ℕ
body_of text = drop (mark_size text) text
