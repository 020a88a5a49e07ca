-- The edits that make one text another.
use Rattle.std.specs.Prelude.{◌≡◌, ◌≢◌, ℕ, suc, ◌+◌, ◌-◌, ◌<◌, ◌≤◌, ◌||◌, ◌==◌, nat_lt, if◌then◌else◌, List, [], ◌∷◌, ◌++◌, length, take, drop, slice_index}
use Rattle.isle_lsp_text.specs.declared.edits.Edit.{Edit}

-- the bytes of a text between two offsets
abbrev pub part : List ℕ → (from to : ℕ) → List ℕ
part text from to = take (to - from) (drop from text)

-- the old text from an offset on, after these edits
abbrev pub applied : ℕ → List Edit → (old new : List ℕ) → List ℕ
applied at [] old new = drop at old
applied at (e ∷ es) old new = part old at e.start ++ (part new e.from e.to ++ applied e.end es old new)

-- a line begins at this offset, or the text ends there
abbrev pub IsLineStart : List ℕ → ℕ → Type 0
IsLineStart text n = (n ≤ length text) × ((m : ℕ) → n ≡ suc m → n < length text → slice_index text m ≡ 10)

-- the first lines of the part that an edit replaces aren't those of the part that it inserts, nor are the last ones
pub record IsTrimmed (old new : List ℕ) (e : Edit) : Type 0 where
  pub front : (end to : ℕ) → e.start < end → end ≤ e.end → e.from < to → to ≤ e.to → IsLineStart old end → IsLineStart new to
      → part old e.start end ≢ part new e.from to
  pub back : (start from : ℕ) → e.start ≤ start → start < e.end → e.from ≤ from → from < e.to → IsLineStart old start → IsLineStart new from
      → part old start e.end ≢ part new from e.to

-- each edit replaces whole lines by whole lines, no more than it must, and an unchanged byte stands between two of them
abbrev pub AreEdits : ℕ → List Edit → (old new : List ℕ) → Type 0
AreEdits at [] old new = Unit {0}
AreEdits at (e ∷ es) old new =
    (at ≤ e.start) × (e.start ≤ e.end) × (e.from ≤ e.to)
    × IsLineStart old e.start × IsLineStart old e.end × IsLineStart new e.from × IsLineStart new e.to
    × IsTrimmed old new e × AreEdits (e.end + 1) es old new

-- the first line of a text, with its LF
abbrev pub first_line : List ℕ → List ℕ
first_line [] = []
first_line (b ∷ bs) = b ∷ (if b == 10 then [] else first_line bs)

-- the edit without some of the lines at its end that are the same in both texts
pub record IsShorter (old new : List ℕ) (e cut : Edit) : Type 0 where
  pub start : cut.start ≡ e.start
  pub from : cut.from ≡ e.from
  pub old_order : (cut.start ≤ cut.end) × (cut.end ≤ e.end)
  pub new_order : (cut.from ≤ cut.to) × (cut.to ≤ e.to)
  pub end : IsLineStart old cut.end
  pub to : IsLineStart new cut.to
  pub same : part old cut.end e.end ≡ part new cut.to e.to

-- the edit without all of them
pub record IsCut (old new : List ℕ) (e cut : Edit) : Type 0 where
  pub shorter : IsShorter old new e cut
  pub back : (start from : ℕ) → cut.start ≤ start → start < cut.end → cut.from ≤ from → from < cut.to → IsLineStart old start → IsLineStart new from
      → part old start cut.end ≢ part new from cut.to

-- the edit, if it changes anything
abbrev pub changed_only : Edit → List Edit
changed_only e = if nat_lt e.start e.end || nat_lt e.from e.to then e ∷ [] else []

-- what an edit among others has
pub record IsEdit (old new : List ℕ) (e : Edit) : Type 0 where
  pub old_order : e.start ≤ e.end
  pub new_order : e.from ≤ e.to
  pub from : IsLineStart new e.from
  pub to : IsLineStart new e.to
