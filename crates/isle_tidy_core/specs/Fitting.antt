-- Which entries can be written, so that the text has them as its document.
use Rattle.std.specs.Prelude.{◌≡◌, List, ℕ, zero, suc, [], ◌∷◌, ◌||◌, Bool, true, false}
use Rattle.std.specs.List.{list_all}
use Rattle.isle_base.specs.Spellings.{Spelling}
use Rattle.isle_base.specs.Skips.{Inside, in_line}
use Rattle.isle_base.specs.Token.{Tok, is_int, is_symbol}
use Rattle.isle_tidy_layout.specs.Entries.{Lexeme, opening, closing, at_sign, atom, line_comment, block_comment, Entry}
use Rattle.isle_tidy_layout.specs.declared.entries.Gap.{Gap}
use Rattle.isle_tidy_layout.specs.declared.entries.Gap.TheVariants.{Beside, Tabbed, Below}
use Rattle.isle_tidy_layout.specs.Placing.{kind_of}
use Rattle.isle_tidy_layout.specs.declared.placing.Kind.{Kind}
use Rattle.isle_tidy_layout.specs.declared.placing.Kind.TheVariants.{Start, Open, Atom, LineComment}

-- the bytes of a symbol or of an integer
abbrev pub IsAtom : List ℕ → Type 0
IsAtom bytes = (token : Tok) × ((is_symbol token || is_int token) ≡ true) × Spelling bytes token []

-- A line_comment holds no line end. A block_comment ends with itself.
abbrev pub IsLexeme : Lexeme → Type 0
IsLexeme opening = Unit {0}
IsLexeme closing = Unit {0}
IsLexeme at_sign = Unit {0}
IsLexeme (atom bytes) = IsAtom bytes
IsLexeme (line_comment bytes) = list_all in_line bytes ≡ true
IsLexeme (block_comment bytes) = Inside bytes []

abbrev pub is_below : Gap → Bool
is_below (Beside _) = false
is_below (Tabbed _) = false
is_below (Below _ _) = true

-- behind the start of a text and behind a line comment a line begins; elsewhere any gap may stand
abbrev pub follows : Kind → Gap → Bool
follows Start gap = is_below gap
follows LineComment gap = is_below gap
follows _ gap = true

-- what a document of a text is made of
abbrev pub AreEntries : Kind → List Entry → Type 0
AreEntries before [] = Unit {0}
AreEntries before (e ∷ es) = IsLexeme e.lexeme × (follows before e.gap ≡ true) × AreEntries (kind_of e.lexeme) es

-- two words do not touch, and a line comment does not touch `(`
abbrev pub may_touch : Kind → Kind → Bool
may_touch Start kind = false
may_touch LineComment kind = false
may_touch Atom Atom = false
may_touch Open LineComment = false
may_touch _ _ = true

abbrev pub fits : Kind → Gap → Kind → Bool
fits before (Tabbed width) kind = false
fits before (Below empty column) kind = true
fits before (Beside (suc width)) kind = follows before (Beside 1)
fits before (Beside zero) kind = may_touch before kind

-- what can be written
abbrev pub AreFit : Kind → List Entry → Type 0
AreFit before [] = Unit {0}
AreFit before (e ∷ es) = IsLexeme e.lexeme × (fits before e.gap (kind_of e.lexeme) ≡ true) × AreFit (kind_of e.lexeme) es
