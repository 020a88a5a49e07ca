-- Which document a text has.
use Rattle.std.specs.Prelude.{◌≡◌, ℕ, suc, zero, List, [], ◌∷◌, ◌++◌, Bool, true, false, ◌||◌, ◌==◌, if◌then◌else◌}
use Rattle.std.specs.List.{list_all}
use Rattle.isle_base.specs.Bytes.{tab, line_feed, carriage_return, left_parenthesis, right_parenthesis, semicolon, commercial_at}
use Rattle.isle_base.specs.Spellings.{Spelling}
use Rattle.isle_base.specs.Skips.{Inside, Longest, begins_with, in_line, is_blank, opens}
use Rattle.isle_base.specs.Token.{Tok, is_int, is_symbol}
use Rattle.isle_tidy_layout.specs.Entries.{Lexeme, opening, closing, at_sign, atom, line_comment, block_comment, Entry}
use Rattle.isle_tidy_layout.specs.declared.entries.Gap.{Gap}
use Rattle.isle_tidy_layout.specs.declared.entries.Gap.TheVariants.{Beside, Tabbed, Below}

-- `text` begins with the lexeme, and `rest` follows it: a atom is spelt as the bytes of a symbol or
-- an integer, a line_comment as `;` and its bytes, which go to the end of the line or of the text, a block_comment
-- as `(;` and its bytes, which end with the comment.
abbrev pub Spells : Lexeme → (text rest : List ℕ) → Type 0
Spells opening text rest = (text ≡ left_parenthesis ∷ rest) × (opens text ≡ false)
Spells closing text rest = text ≡ right_parenthesis ∷ rest
Spells at_sign text rest = text ≡ commercial_at ∷ rest
Spells (atom bytes) text rest =
    (token : Tok) × ((is_symbol token || is_int token) ≡ true) × Spelling text token rest × (text ≡ bytes ++ rest)
Spells (line_comment bytes) text rest = (inner : List ℕ) × (text ≡ semicolon ∷ inner) × Longest in_line inner bytes rest
Spells (block_comment bytes) text rest =
    (inner : List ℕ) × (text ≡ left_parenthesis ∷ semicolon ∷ inner) × (inner ≡ bytes ++ rest) × Inside inner rest

-- one space more, one tab more, one line end more
abbrev pub space_more : Gap → Gap
space_more (Beside width) = Beside (suc width)
space_more (Tabbed width) = Tabbed (suc width)
space_more (Below empty column) = Below empty (suc column)

abbrev pub tab_more : Gap → Gap
tab_more (Beside width) = Tabbed (suc width)
tab_more (Tabbed width) = Tabbed (suc width)
tab_more (Below empty column) = Below empty (suc column)

abbrev pub line_more : Gap → Gap
line_more (Beside width) = Below 0 0
line_more (Tabbed width) = Below 0 0
line_more (Below empty column) = Below (suc empty) 0

-- one blank more; a CR before a LF is counted with it
abbrev pub blank_more : Gap → (blank : ℕ) → (before_feed : Bool) → Gap
blank_more gap b before_feed =
    if b == line_feed then line_more gap
    else (if b == carriage_return then (if before_feed then gap else line_more gap)
    else (if b == tab then tab_more gap else space_more gap))

-- the gap that blanks make behind another one
abbrev pub gap_of : Gap → List ℕ → Gap
gap_of gap [] = gap
gap_of gap (b ∷ bs) = gap_of (blank_more gap b (begins_with (λ c. c == line_feed) bs)) bs

-- The text to come, behind a gap of which so much has been read, is these entries: all blanks that
-- there are before each, and behind the last only blanks.
abbrev pub SpellsEntries : Gap → List Entry → List ℕ → Type 0
SpellsEntries gap [] text = list_all is_blank text ≡ true
SpellsEntries gap (e ∷ es) text =
    (blanks : List ℕ) × (from : List ℕ) × (after : List ℕ) × Longest is_blank text blanks from
    × (e.gap ≡ gap_of gap blanks) × Spells e.lexeme from after × SpellsEntries (Beside 0) es after

-- the parentheses match, where so many lists are open
abbrev pub matches : ℕ → List Lexeme → Bool
matches zero [] = true
matches (suc depth) [] = false
matches depth (opening ∷ xs) = matches (suc depth) xs
matches zero (closing ∷ xs) = false
matches (suc depth) (closing ∷ xs) = matches depth xs
matches depth (at_sign ∷ xs) = matches depth xs
matches depth (atom _ ∷ xs) = matches depth xs
matches depth (line_comment _ ∷ xs) = matches depth xs
matches depth (block_comment _ ∷ xs) = matches depth xs

abbrev pub lexemes : List Entry → List Lexeme
lexemes [] = []
lexemes (e ∷ es) = e.lexeme ∷ lexemes es

-- this is the document of the text
abbrev pub IsDocument : List ℕ → List Entry → Type 0
IsDocument text entries = SpellsEntries (Below 0 0) entries text × (matches 0 (lexemes entries) ≡ true)
