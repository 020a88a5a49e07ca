-- The format of a unified diff, and what the diff of two texts is.
use Rattle.std.specs.Prelude.{◌≡◌, ◌≢◌, ◌⊎◌, ℕ, ◌+◌, ◌-◌, ◌==◌, nat_lt, ◌||◌, Bool, true, false, if◌then◌else◌, List, [], ◌∷◌, ◌++◌, codes, length, slice_index, take}
use Rattle.std.specs.Fmt.{decimal}
use Rattle.std.specs.List.{list_any}
use Rattle.isle_tidy_diff.specs.declared.edits.Change.{Change}
use Rattle.isle_tidy_diff.specs.declared.edits.Change.TheVariants.{Kept, Removed, Added}
use Rattle.isle_tidy_diff.specs.declared.hunks.Place.{Place}
use Rattle.isle_tidy_diff.specs.Edits.{LineEdit, lines, new_lines, old_lines}

abbrev pub is_change : Change → Bool
is_change Kept = false
is_change Removed = true
is_change Added = true

-- some line changes
abbrev pub has_change : List LineEdit → Bool
has_change es = list_any (λ e. is_change e.0) es

-- The first of these edits is shown: it is among the three behind a change, of which so many are left, or it or one of
-- the next three is a change.
abbrev pub is_shown : (behind : ℕ) → List LineEdit → Bool
is_shown behind es = nat_lt 0 behind || has_change (take 4 es)

-- how many are left behind an edit
abbrev pub left_behind : (behind : ℕ) → Change → ℕ
left_behind behind Kept = behind - 1
left_behind behind Removed = 3
left_behind behind Added = 3

-- a hunk: the edits that are shown, up to one that isn't
unfoldable pub hunk : (behind : ℕ) → List LineEdit → List LineEdit
hunk behind [] = []
hunk behind (e ∷ es) = if is_shown behind (e ∷ es) then e ∷ hunk (left_behind behind e.0) es else []

-- how many lines of each text an edit has
abbrev pub in_old : Change → ℕ
in_old Kept = 1
in_old Removed = 1
in_old Added = 0

abbrev pub in_new : Change → ℕ
in_new Kept = 1
in_new Removed = 0
in_new Added = 1

-- The lines of a hunk in one text, behind so many others: the number of the first one, and how many they are, which 1
-- goes without. If there is none, the number is that of the line before.
abbrev pub range : (before count : ℕ) → List ℕ
range before count =
    if count == 0 then decimal before ++ (codes "," ++ decimal count)
    else if count == 1 then decimal (before + 1) else decimal (before + 1) ++ (codes "," ++ decimal count)

-- what stands in front of a hunk
unfoldable pub header : Place → List LineEdit → List ℕ
header place es =
    codes "@@ -" ++ (range place.old (length (old_lines (hunk place.behind es)))
    ++ (codes " +" ++ (range place.new (length (new_lines (hunk place.behind es))) ++ codes " @@\n")))

-- what stands in front of a line, and behind one that lacks its LF
abbrev pub sign : Change → ℕ
sign Kept = 32
sign Removed = 45
sign Added = 43

abbrev pub line_end : List ℕ → List ℕ
line_end line = if slice_index line (length line - 1) == 10 then [] else codes "\n\\ No newline at end of file\n"

abbrev pub row : LineEdit → List ℕ
row e = sign e.0 ∷ (e.1 ++ line_end e.1)

-- the first of these edits, if it is shown; in front of the first one of a hunk comes the header
unfoldable pub shown : Place → List LineEdit → List ℕ
shown place [] = []
shown place (e ∷ es) =
    if is_shown place.behind (e ∷ es) then (if place.is_inside then [] else header place (e ∷ es)) ++ row e else []

-- the place behind it
unfoldable pub next_place : Place → List LineEdit → Place
next_place place [] = place
next_place place (e ∷ es) = record {
  is_inside = is_shown place.behind (e ∷ es);
  behind = left_behind place.behind e.0;
  old = place.old + in_old e.0;
  new = place.new + in_new e.0;
}

-- all that is shown of edits
unfoldable pub rows : Place → List LineEdit → List ℕ
rows place [] = []
rows place (e ∷ es) = shown place (e ∷ es) ++ rows (next_place place (e ∷ es)) es

-- where edits begin
abbrev pub first_place : Place
first_place = record { is_inside = false; behind = 0; old = 0; new = 0 }

-- what `patch` needs behind a name that has a blank
abbrev pub name_end : (name : List ℕ) → List ℕ
name_end name = if list_any (λ b. b == 32) name then codes "\t" else []

-- what stands in front of the hunks
abbrev pub names : (name : List ℕ) → List ℕ
names name = codes "--- " ++ (name ++ (name_end name ++ (codes "\n+++ " ++ (name ++ (name_end name ++ codes "\n")))))

-- The diff of two texts: edits with all lines of the one, and all lines of the other, as they are shown.
pub record IsWritten (name old new diff : List ℕ) : Type 0 where
  pub edits : List LineEdit
  pub from : old_lines edits ≡ lines old
  pub to : new_lines edits ≡ lines new
  pub is : diff ≡ names name ++ rows first_place edits

-- nothing where the texts are equal
abbrev pub IsDiff : (name old new diff : List ℕ) → Type 0
IsDiff name old new diff = ((old ≡ new) × (diff ≡ [])) ⊎ ((old ≢ new) × IsWritten name old new diff)
