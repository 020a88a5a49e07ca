-- How a document is written.
use Rattle.std.specs.Prelude.{ℕ, zero, suc, List, [], ◌∷◌, ◌++◌, replicate}
use Rattle.isle_base.specs.Bytes.{line_feed, space, tab, left_parenthesis, right_parenthesis, semicolon, commercial_at}
use Rattle.isle_tidy_layout.specs.Entries.{Lexeme, opening, closing, at_sign, atom, line_comment, block_comment, Entry}
use Rattle.isle_tidy_layout.specs.declared.entries.Gap.{Gap}
use Rattle.isle_tidy_layout.specs.declared.entries.Gap.TheVariants.{Beside, Tabbed, Below}

abbrev pub spelling : Lexeme → List ℕ
spelling opening = left_parenthesis ∷ []
spelling closing = right_parenthesis ∷ []
spelling at_sign = commercial_at ∷ []
spelling (atom bytes) = bytes
spelling (line_comment bytes) = semicolon ∷ bytes
spelling (block_comment bytes) = left_parenthesis ∷ semicolon ∷ bytes

-- line ends for the empty lines, and spaces up to the column
abbrev pub indentation : (empty column : ℕ) → List ℕ
indentation empty column = replicate empty line_feed ++ replicate column space

-- what is written of a gap between two entries
abbrev pub gap_text : Gap → List ℕ
gap_text (Beside width) = replicate width space
gap_text (Tabbed zero) = []
gap_text (Tabbed (suc width)) = tab ∷ replicate width space
gap_text (Below empty column) = line_feed ∷ indentation empty column

-- and of that before the first entry, where a line begins without a line end
abbrev pub start_text : Gap → List ℕ
start_text (Beside width) = []
start_text (Tabbed width) = []
start_text (Below empty column) = indentation empty column

abbrev pub written_after : List Entry → List ℕ
written_after [] = line_feed ∷ []
written_after (e ∷ es) = gap_text e.gap ++ (spelling e.lexeme ++ written_after es)

-- the text of a document ends with a line end; the empty document is the empty text
abbrev pub written : List Entry → List ℕ
written [] = []
written (e ∷ es) = start_text e.gap ++ (spelling e.lexeme ++ written_after es)
