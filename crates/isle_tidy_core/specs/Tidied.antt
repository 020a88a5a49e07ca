-- The tidy text of a text, and what it keeps.
use Rattle.std.specs.Prelude.{◌≡◌, ◌≢◌, ℕ, List, [], ◌∷◌, ◌++◌, map, Option, Some, None}
use Rattle.isle_tidy_layout.specs.Entries.{Entry}
use Rattle.isle_tidy_layout.specs.declared.entries.Gap.{Gap}
use Rattle.isle_tidy_layout.specs.declared.entries.Gap.TheVariants.{Beside, Tabbed, Below}
use Rattle.isle_tidy_core.specs.Ends.{body_of, entries_with, line_end_of, mark_of, with_ends}
use Rattle.isle_tidy_core.specs.Grammar.{IsDocument}
use Rattle.isle_tidy_core.specs.declared.ends.LineEnd.TheVariants.{Lf}
use Rattle.isle_tidy_layout.specs.Placing.{at_most_two, placed}
use Rattle.isle_tidy_layout.specs.Writing.{written}

-- the text has a document, and this is what is written of it once it is placed
pub record IsLaidOut (text answer : List ℕ) : Type 0 where
  pub document : List Entry
  pub is_document : IsDocument text document
  pub is_written : answer ≡ written (placed document)

-- The text has a document, and this is its tidy text: what is written of the document once it is placed, with the
-- line ends of the text, behind the mark.
pub record IsTidyTextOf (text answer : List ℕ) : Type 0 where
  pub document : List Entry
  pub is_document : IsDocument (body_of text) document
  pub is_written : answer ≡ mark_of text ++ with_ends (line_end_of text) (written (placed (entries_with Lf document)))

-- the tidy text of the text is another one
abbrev pub IsUntidy : List ℕ → Type 0
IsUntidy text = (answer : List ℕ) × IsTidyTextOf text answer × (answer ≢ text)

-- the empty lines before an entry that begins a line
abbrev pub empty_before : Gap → Option ℕ
empty_before (Beside _) = None
empty_before (Tabbed _) = None
empty_before (Below empty _) = Some empty

-- for each entry whether it begins a line, and behind how many empty ones
abbrev pub breaks : List Entry → List (Option ℕ)
breaks [] = []
breaks (e ∷ es) = empty_before e.gap ∷ breaks es

abbrev pub capped : Option ℕ → Option ℕ
capped None = None
capped (Some empty) = Some (at_most_two empty)

abbrev pub without_empty : Option ℕ → Option ℕ
without_empty None = None
without_empty (Some _) = Some 0

-- the same lines, but for the empty ones at the start and past two
abbrev pub capped_breaks : List (Option ℕ) → List (Option ℕ)
capped_breaks [] = []
capped_breaks (first ∷ more) = without_empty first ∷ map capped more
