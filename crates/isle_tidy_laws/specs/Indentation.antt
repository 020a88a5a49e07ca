-- What formatting is for: lines that begin in one list begin in one column.
use Rattle.std.specs.Prelude.{◌≡◌, ℕ, List, [], ◌∷◌, Bool, false, Option, None, Some}
use Rattle.isle_tidy_layout.specs.Entries.{Entry, Lexeme, opening, closing}
use Rattle.isle_tidy_layout.specs.Placing.{is_closing}
use Rattle.isle_tidy_layout.specs.declared.entries.Gap.{Gap}
use Rattle.isle_tidy_layout.specs.declared.entries.Gap.TheVariants.{Below}

-- Of each open list, the innermost first, the column of its lines once one has begun in it. A line
-- begins in that column, or where no list is open in column 0.
abbrev pub FitsLine : List (Option ℕ) → (column : ℕ) → Type 0
FitsLine [] column = column ≡ 0
FitsLine (None ∷ _) column = Unit {0}
FitsLine (Some c ∷ _) column = column ≡ c

-- an entry that begins a line does, unless it is `)`
abbrev pub FitsGap : List (Option ℕ) → Gap → (closes : Bool) → Type 0
FitsGap lists (Below _ column) false = FitsLine lists column
FitsGap lists _ _ = Unit {0}

abbrev pub with_line : (column : ℕ) → List (Option ℕ) → List (Option ℕ)
with_line column [] = []
with_line column (_ ∷ lists) = Some column ∷ lists

abbrev pub line_begun : List (Option ℕ) → Gap → (closes : Bool) → List (Option ℕ)
line_begun lists (Below _ column) false = with_line column lists
line_begun lists _ _ = lists

abbrev pub outer : List (Option ℕ) → List (Option ℕ)
outer [] = []
outer (_ ∷ lists) = lists

abbrev pub behind : Lexeme → List (Option ℕ) → List (Option ℕ)
behind opening lists = None ∷ lists
behind closing lists = outer lists
behind _ lists = lists

-- all of a document do
abbrev pub LinesFit : List (Option ℕ) → List Entry → Type 0
LinesFit lists [] = Unit {0}
LinesFit lists (e ∷ es) =
    FitsGap lists e.gap (is_closing e.lexeme) × LinesFit (behind e.lexeme (line_begun lists e.gap (is_closing e.lexeme))) es
