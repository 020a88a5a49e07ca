-- The lines of texts, and the edits that make one text of another.
use Rattle.std.specs.Prelude.{◌≡◌, ℕ, ◌-◌, ◌≤◌, ◌==◌, if◌then◌else◌, List, [], ◌∷◌, ◌++◌, map, take, drop}
use Rattle.std.specs.Borrow.{Bor}
use Rattle.isle_tidy_diff.specs.declared.edits.Change.{Change}
use Rattle.isle_tidy_diff.specs.declared.edits.Change.TheVariants.{Kept, Removed, Added}
use Rattle.isle_tidy_diff.specs.declared.edits.Edit.{Edit}

-- the lines of a text whose first line begins with these bytes: each ends with its LF, which only the last one may lack
unfoldable pub lines_behind : (begun text : List ℕ) → List (List ℕ)
lines_behind [] [] = []
lines_behind (b ∷ bs) [] = (b ∷ bs) ∷ []
lines_behind begun (c ∷ cs) =
    if c == 10 then (begun ++ c ∷ []) ∷ lines_behind [] cs else lines_behind (begun ++ c ∷ []) cs

-- the lines of a text
abbrev pub lines : (text : List ℕ) → List (List ℕ)
lines text = lines_behind [] text

-- what becomes of a line, and the line
abbrev pub LineEdit : Type 0
LineEdit = Change × List ℕ

-- the lines of the old text among edits
abbrev pub old_lines : List LineEdit → List (List ℕ)
old_lines [] = []
old_lines ((Kept, line) ∷ es) = line ∷ old_lines es
old_lines ((Removed, line) ∷ es) = line ∷ old_lines es
old_lines ((Added, line) ∷ es) = old_lines es

-- the lines of the new text
abbrev pub new_lines : List LineEdit → List (List ℕ)
new_lines [] = []
new_lines ((Kept, line) ∷ es) = line ∷ new_lines es
new_lines ((Removed, line) ∷ es) = new_lines es
new_lines ((Added, line) ∷ es) = line ∷ new_lines es

-- a line that is added
abbrev pub added_line : List ℕ → LineEdit
added_line line = (Added, line)

-- the edits of code, and the bytes of slices, as pure values
abbrev pub edit_of : Edit → LineEdit
edit_of e = (e.change, e.line.now)

abbrev pub edits_of : List Edit → List LineEdit
edits_of es = map edit_of es

abbrev pub texts_of : List (Bor (List ℕ)) → List (List ℕ)
texts_of ts = map (λ t. t.now) ts

-- some elements of a list, between two places
abbrev pub part : {A : Type 0} → List A → (from to : ℕ) → List A
part xs from to = take (to - from) (drop from xs)

-- the edits grow by one line of the old text, and by those of the new text between two places
pub record TellsMore (before after : List LineEdit) (line : List ℕ) (lines : List (List ℕ)) (from to : ℕ) : Type 0 where
  pub order : from ≤ to
  pub old : old_lines after ≡ old_lines before ++ line ∷ []
  pub new : new_lines after ≡ new_lines before ++ part lines from to
