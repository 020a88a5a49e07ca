-- What the private calls of the reader find in a text from an offset on.
use Rattle.std.specs.Prelude.{◌≡◌, ◌+◌, ◌<◌, ◌≤◌, ◌-◌, ℕ, List, Option, Some, None, drop, take, length, IsUtf8}
use Rattle.std.specs.Prelude.{true}
use Rattle.std.specs.List.{list_all}
use Rattle.isle_base.specs.Skips.{Longest, is_blank}
use Rattle.isle_tidy_layout.specs.declared.entries.Gap.{Gap}
use Rattle.isle_tidy_layout.specs.declared.entries.Lexeme.{Lexeme as Text}
use Rattle.isle_tidy_layout.specs.declared.entries.Gap.TheVariants.{Beside}
use Rattle.isle_tidy_layout.specs.Writing.{gap_text}
use Rattle.isle_tidy_core.specs.declared.reader.Blanks.{Blanks}
use Rattle.isle_tidy_core.specs.declared.reader.Step.{Step}
use Rattle.isle_tidy_core.specs.declared.reader.Step.TheVariants.{More, End, Refused}
use Rattle.isle_tidy_layout.specs.Entries.{Lexeme, Entry}
use Rattle.isle_tidy_layout.specs.EntriesView.{lexeme_of}
use Rattle.isle_tidy_core.specs.Grammar.{Spells, SpellsEntries, gap_of}

-- the lexeme stands from the one offset to the other, behind which the text goes on with a whole character
abbrev pub Stands : List ℕ → Lexeme → ℕ → ℕ → Type 0
Stands text x from to = Spells x (drop from text) (drop to text) × (from < to) × (to ≤ length text) × IsUtf8 (drop to text)

-- no lexeme stands here
abbrev pub SpellsNone : List ℕ → Type 0
SpellsNone text = (x : Lexeme) (rest : List ℕ) → Spells x text rest → ⊥

-- a lexeme and the offset behind it, or none
abbrev pub FindsLexeme : List ℕ → ℕ → Option (Text × ℕ) → Type 0
FindsLexeme text from (Some x) = Stands text (lexeme_of x.0) from x.1
FindsLexeme text from None = SpellsNone (drop from text)

-- the gap that the blanks between two offsets make behind another one, all that there are
abbrev pub FindsGap : List ℕ → Gap → ℕ → Gap → ℕ → Type 0
FindsGap text before from gap to =
    (blanks : List ℕ) × Longest is_blank (drop from text) blanks (drop to text) × (gap ≡ gap_of before blanks) × (from ≤ to)
    × (to ≤ length text)

-- the bytes of a text between two offsets
abbrev pub part : List ℕ → (from to : ℕ) → List ℕ
part text from to = take (to - from) (drop from text)

-- the bytes between two offsets are what is written of the gap
abbrev pub AreCanonical : List ℕ → (from to : ℕ) → Gap → Type 0
AreCanonical text from to gap = part text from to ≡ gap_text gap

-- the blanks at an offset, all that there are, which may be known to be what is written of their gap
abbrev pub FindsBlanks : List ℕ → Gap → ℕ → Blanks → Type 0
FindsBlanks text before from b = FindsGap text before from b.gap b.end × (b.are_canonical ≡ true → AreCanonical text from b.end b.gap)

-- the blanks between two offsets are what is written of a gap, behind an entry
abbrev pub FindsCanonicalGap : List ℕ → ℕ → Gap → ℕ → Type 0
FindsCanonicalGap text from gap to = FindsGap text (Beside 0) from gap to × AreCanonical text from to gap

abbrev pub FindsCanonicalBlanks : List ℕ → ℕ → Blanks → Type 0
FindsCanonicalBlanks text from b = FindsCanonicalGap text from b.gap b.end

-- what stands behind the blanks at an offset: an entry, or only the end of the text, or nothing that a
-- document can have
abbrev pub FindsEntry : List ℕ → Gap → ℕ → Step → Type 0
FindsEntry text gap from (More e s) =
    FindsGap text gap from e.gap s.start × Stands text (lexeme_of e.lexeme) s.start s.end × (s.is_canonical ≡ true → AreCanonical text from s.start e.gap)
FindsEntry text gap from End = list_all is_blank (drop from text) ≡ true
FindsEntry text gap from Refused = (entries : List Entry) → SpellsEntries gap entries (drop from text) → ⊥

-- behind an entry, so many spaces and then this lexeme, up to an offset
abbrev pub FindsBeside : List ℕ → (before : Gap) → (from width : ℕ) → Lexeme → ℕ → Type 0
FindsBeside text before from width x to =
    (before ≡ Beside 0) × FindsCanonicalGap text from (Beside width) (from + width) × Stands text x (from + width) to
