-- The entries of the code, as pure values.
use Rattle.std.specs.Prelude.{List, map}
use Rattle.isle_tidy_layout.specs.declared.entries.Entry.{Entry as Written}
use Rattle.isle_tidy_layout.specs.declared.entries.Lexeme.{Lexeme as Text}
use Rattle.isle_tidy_layout.specs.declared.entries.Lexeme.TheVariants.{Opening, Closing, At, Atom, LineComment, BlockComment}
use Rattle.isle_tidy_layout.specs.Entries.{Lexeme, opening, closing, at_sign, atom, line_comment, block_comment, Entry}

abbrev pub lexeme_of : Text → Lexeme
lexeme_of Opening = opening
lexeme_of Closing = closing
lexeme_of At = at_sign
lexeme_of (Atom text) = atom text.now
lexeme_of (LineComment text) = line_comment text.now
lexeme_of (BlockComment text) = block_comment text.now

abbrev pub entry_of : Written → Entry
entry_of e = record { gap = e.gap; lexeme = lexeme_of e.lexeme }

abbrev pub entries_of : List Written → List Entry
entries_of es = map entry_of es
