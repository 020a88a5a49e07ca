-- The rows of edits, one after another.
use Rattle.std.proofs.Common.{◌≡◌, ◌≤◌, ◌<◌, ◌+◌, ◌-◌, ℕ, List, [], ◌∷◌, ◌++◌, Bool, true, false, if◌then◌else◌, get_or, length, take, drop, refl, sym, ap, ap₂, ◌∙◌, append_assoc, append-nil, arith, Result, Ok, Err, OnOk}
use Rattle.std.proofs.lemmas.List.{at_drop_all, at_drop_more, take_rest}
use Rattle.std.specs.declared.alloc.AllocError.{AllocError}
use Rattle.isle_tidy_diff.specs.declared.edits.Change.{Change}
use Rattle.isle_tidy_diff.specs.declared.edits.Change.TheVariants.{Kept, Removed, Added}
use Rattle.isle_tidy_diff.specs.declared.edits.Edit.{Edit}
use Rattle.isle_tidy_diff.specs.declared.hunks.Place.{Place}
use Rattle.isle_tidy_diff.specs.Edits.{LineEdit, edit_of, edits_of, new_lines, old_lines}
use Rattle.isle_tidy_diff.specs.Unified.{hunk, in_new, in_old, is_shown, left_behind, next_place, row, rows, header, shown}

pub rows-none : (place : Place) → rows place [] ≡ []
unfolding rows
rows-none place = refl

pub rows-more : (place : Place) (e : LineEdit) (es : List LineEdit) → rows place (e ∷ es) ≡ shown place (e ∷ es) ++ rows (next_place place (e ∷ es)) es
unfolding rows
rows-more place e es = refl

pub hunk-none : (behind : ℕ) → hunk behind [] ≡ []
unfolding hunk
hunk-none behind = refl

-- an edit is shown, or isn't
pub hunk-more : (behind : ℕ) (e : LineEdit) (es : List LineEdit) → is_shown behind (e ∷ es) ≡ true → hunk behind (e ∷ es) ≡ e ∷ hunk (left_behind behind e.0) es
unfolding hunk
hunk-more behind e es on = ap (λ b. if b then e ∷ hunk (left_behind behind e.0) es else []) on

hunk-end : (behind : ℕ) (e : LineEdit) (es : List LineEdit) → is_shown behind (e ∷ es) ≡ false → hunk behind (e ∷ es) ≡ []
unfolding hunk
hunk-end behind e es off = ap (λ b. if b then e ∷ hunk (left_behind behind e.0) es else []) off

pub hunk-ends : (behind : ℕ) (es : List LineEdit) → is_shown behind es ≡ false → hunk behind es ≡ []
hunk-ends behind [] off = hunk-none behind
hunk-ends behind (e ∷ es) off = hunk-end behind e es off

old-one : (e : LineEdit) (es : List LineEdit) → length (old_lines (e ∷ es)) ≡ in_old e.0 + length (old_lines es)
old-one (Kept, line) es = omega arith
old-one (Removed, line) es = omega arith
old-one (Added, line) es = omega arith

new-one : (e : LineEdit) (es : List LineEdit) → length (new_lines (e ∷ es)) ≡ in_new e.0 + length (new_lines es)
new-one (Kept, line) es = omega arith
new-one (Removed, line) es = omega arith
new-one (Added, line) es = omega arith

-- the lines of a hunk, with its first one
pub hunk-old : (behind : ℕ) (e : LineEdit) (es : List LineEdit) → is_shown behind (e ∷ es) ≡ true → length (old_lines (hunk behind (e ∷ es))) ≡ in_old e.0 + length (old_lines (hunk (left_behind behind e.0) es))
hunk-old behind e es on = ap (λ fs. length (old_lines fs)) (hunk-more behind e es on) ∙ old-one e (hunk (left_behind behind e.0) es)

pub hunk-new : (behind : ℕ) (e : LineEdit) (es : List LineEdit) → is_shown behind (e ∷ es) ≡ true → length (new_lines (hunk behind (e ∷ es))) ≡ in_new e.0 + length (new_lines (hunk (left_behind behind e.0) es))
hunk-new behind e es on = ap (λ fs. length (new_lines fs)) (hunk-more behind e es on) ∙ new-one e (hunk (left_behind behind e.0) es)

-- at most one line for an edit
pub few-old : (change : Change) → in_old change ≤ 1
few-old Kept = omega arith
few-old Removed = omega arith
few-old Added = omega arith

pub few-new : (change : Change) → in_new change ≤ 1
few-new Kept = omega arith
few-new Removed = omega arith
few-new Added = omega arith

pub one-old : (one : ℕ) (change : Change) → one ≡ in_old change → one ≤ 1
one-old one change is = omega (arith, is, few-old change)

pub one-new : (one : ℕ) (change : Change) → one ≡ in_new change → one ≤ 1
one-new one change is = omega (arith, is, few-new change)

-- what is shown of an edit, as far as it is shown
pub shown-none : (place : Place) (es : List LineEdit) → is_shown place.behind es ≡ false → shown place es ≡ []
unfolding shown
shown-none place [] off = refl
shown-none place (e ∷ es) off = ap (λ b. if b then (if place.is_inside then [] else header place (e ∷ es)) ++ row e else []) off

pub shown-inside : (place : Place) (e : LineEdit) (es : List LineEdit) → is_shown place.behind (e ∷ es) ≡ true → place.is_inside ≡ true → shown place (e ∷ es) ≡ row e
unfolding shown
shown-inside place e es on inside =
    ap (λ b. if b then (if place.is_inside then [] else header place (e ∷ es)) ++ row e else []) on
    ∙ ap (λ b. (if b then [] else header place (e ∷ es)) ++ row e) inside

pub shown-first : (place : Place) (e : LineEdit) (es : List LineEdit) → is_shown place.behind (e ∷ es) ≡ true → place.is_inside ≡ false → shown place (e ∷ es) ≡ header place (e ∷ es) ++ row e
unfolding shown
shown-first place e es on outside =
    ap (λ b. if b then (if place.is_inside then [] else header place (e ∷ es)) ++ row e else []) on
    ∙ ap (λ b. (if b then [] else header place (e ∷ es)) ++ row e) outside

-- the place behind the first edit
next-more : (place : Place) (e : LineEdit) (es : List LineEdit) → next_place place (e ∷ es)
    ≡ record { is_inside = is_shown place.behind (e ∷ es); behind = left_behind place.behind e.0; old = place.old + in_old e.0; new = place.new + in_new e.0 }
unfolding next_place
next-more place e es = refl

pub next-is : (place : Place) (e : LineEdit) (es more : List LineEdit) (inside : Bool) (behind old new : ℕ) → es ≡ e ∷ more → inside ≡ is_shown place.behind es → behind ≡ left_behind place.behind e.0
    → old ≡ in_old e.0 → new ≡ in_new e.0 → record { is_inside = inside; behind = behind; old = place.old + old; new = place.new + new } ≡ next_place place es
next-is place e es more inside behind old new is i b o n =
    rw (i, b, o, n, is) (sym (next-more place e more))

next-old : (place : Place) (e : LineEdit) (es : List LineEdit) → (next_place place (e ∷ es)).old ≡ place.old + in_old e.0
unfolding next_place
next-old place e es = refl

next-new : (place : Place) (e : LineEdit) (es : List LineEdit) → (next_place place (e ∷ es)).new ≡ place.new + in_new e.0
unfolding next_place
next-new place e es = refl

-- it has at most one line more of each text in front of it
pub next-few : (place place' : Place) (e : LineEdit) (es more : List LineEdit) (at : ℕ) → es ≡ e ∷ more → place' ≡ next_place place es → place.old ≤ at → place.new ≤ at
    → (place'.old ≤ at + 1) × (place'.new ≤ at + 1)
next-few place place' e es more at is next old new =
    let o : place'.old ≡ place.old + in_old e.0 = ap (λ p. p.old) next ∙ ap (λ fs. (next_place place fs).old) is ∙ next-old place e more in
    let n : place'.new ≡ place.new + in_new e.0 = ap (λ p. p.new) next ∙ ap (λ fs. (next_place place fs).new) is ∙ next-new place e more in
    (omega (arith, o, few-old e.0), omega (arith, n, few-new e.0))

-- one edit more is written
pub rows-on : (place place' : Place) (diff diff' all : List ℕ) (e : LineEdit) (es here more : List LineEdit) → es ≡ e ∷ more → here ≡ e ∷ more → diff' ≡ diff ++ shown place es → place' ≡ next_place place es
    → diff ++ rows place here ≡ all → diff' ++ rows place' more ≡ all
rows-on place place' diff diff' all e es here more is same written next before =
    ap₂ (λ d p. d ++ rows p more) written next
    ∙ append_assoc diff (shown place es) (rows (next_place place es) more)
    ∙ ap (λ fs. diff ++ (shown place fs ++ rows (next_place place fs) more)) is
    ∙ ap (λ r. diff ++ r) (sym (rows-more place e more))
    ∙ ap (λ fs. diff ++ rows place fs) (sym same)
    ∙ before

-- all are written
pub rows-end : (place : Place) (diff all : List ℕ) (es : List LineEdit) → es ≡ [] → diff ++ rows place es ≡ all → diff ≡ all
rows-end place diff all es none before = sym (append-nil diff) ∙ ap (λ r. diff ++ r) (sym (rows-none place)) ∙ ap (λ fs. diff ++ rows place fs) (sym none) ∙ before

-- one edit of a hunk more is counted
pub old-counted : (left left' count one total : ℕ) (e : LineEdit) (es here more : List LineEdit) → es ≡ e ∷ more → here ≡ e ∷ more → is_shown left es ≡ true → left' ≡ left_behind left e.0 → one ≡ in_old e.0
    → count + length (old_lines (hunk left here)) ≡ total → count + one + length (old_lines (hunk left' more)) ≡ total
old-counted left left' count one total e es here more is same on next one_is before =
    let all : length (old_lines (hunk left here)) ≡ in_old e.0 + length (old_lines (hunk (left_behind left e.0) more)) =
    ap (λ fs. length (old_lines (hunk left fs))) same ∙ hunk-old left e more (ap (is_shown left) (sym is) ∙ on) in
    let rest : length (old_lines (hunk left' more)) ≡ length (old_lines (hunk (left_behind left e.0) more)) = ap (λ l. length (old_lines (hunk l more))) next in
    omega (arith, all, rest, one_is, before)

pub new-counted : (left left' count one total : ℕ) (e : LineEdit) (es here more : List LineEdit) → es ≡ e ∷ more → here ≡ e ∷ more → is_shown left es ≡ true → left' ≡ left_behind left e.0 → one ≡ in_new e.0
    → count + length (new_lines (hunk left here)) ≡ total → count + one + length (new_lines (hunk left' more)) ≡ total
new-counted left left' count one total e es here more is same on next one_is before =
    let all : length (new_lines (hunk left here)) ≡ in_new e.0 + length (new_lines (hunk (left_behind left e.0) more)) =
    ap (λ fs. length (new_lines (hunk left fs))) same ∙ hunk-new left e more (ap (is_shown left) (sym is) ∙ on) in
    let rest : length (new_lines (hunk left' more)) ≡ length (new_lines (hunk (left_behind left e.0) more)) = ap (λ l. length (new_lines (hunk l more))) next in
    omega (arith, all, rest, one_is, before)

-- a hunk ends here
pub counted-all : (count total : ℕ) (ls : List (List ℕ)) → ls ≡ [] → count + length ls ≡ total → count ≡ total
counted-all count total ls none before = let z : length ls ≡ 0 = ap length none in omega (arith, z, before)

pub no-old : (left : ℕ) (es here : List LineEdit) → es ≡ here → is_shown left es ≡ false → old_lines (hunk left here) ≡ []
no-old left es here same off = ap old_lines (hunk-ends left here (ap (is_shown left) (sym same) ∙ off))

pub no-new : (left : ℕ) (es here : List LineEdit) → es ≡ here → is_shown left es ≡ false → new_lines (hunk left here) ≡ []
no-new left es here same off = ap new_lines (hunk-ends left here (ap (is_shown left) (sym same) ∙ off))

pub none-old : (left : ℕ) (es : List LineEdit) → es ≡ [] → old_lines (hunk left es) ≡ []
none-old left es none = ap (λ fs. old_lines (hunk left fs)) none ∙ ap old_lines (hunk-none left)

pub none-new : (left : ℕ) (es : List LineEdit) → es ≡ [] → new_lines (hunk left es) ≡ []
none-new left es none = ap (λ fs. new_lines (hunk left fs)) none ∙ ap new_lines (hunk-none left)

-- an edit that stands for any
pub any_edit : Edit
any_edit = record { change = Kept; line = record { ref_ptr = (0, 0); now = [] } }

-- the edits of code from a place on
pub edits-at : (es : List Edit) (at : ℕ) (d : Edit) → at < length es → edits_of (drop at es) ≡ edit_of (get_or es at d) ∷ edits_of (drop (at + 1) es)
edits-at es at d l = at_drop_more edits_of es at d l

pub edits-rest : (es : List Edit) (at : ℕ) → edits_of (take (length es - at) (drop at es)) ≡ edits_of (drop at es)
edits-rest es at = ap edits_of (take_rest es at)

pub edits-past : (es : List Edit) (at : ℕ) → length es ≤ at → edits_of (drop at es) ≡ []
edits-past es at l = at_drop_all edits_of es at l

pub edits-first : (es : List Edit) (d : Edit) → 0 < length es → edits_of es ≡ edit_of (get_or es 0 d) ∷ edits_of (drop 1 es)
edits-first es d l = edits-at es 0 d l

-- the first edit of a hunk is written, or another one
OnOk-map : {P Q : Type 0} (result : Result (Unit {0}) AllocError) → (P → Q) → OnOk result P → OnOk result Q
OnOk-map (Ok x) f p = f p
OnOk-map (Err e) f p = tt

module _ (result : Result (Unit {0}) AllocError) (place : Place) (diff before diff' : List ℕ) (e : LineEdit) (es more : List LineEdit) where
  pub written-first : es ≡ e ∷ more → is_shown place.behind es ≡ true → place.is_inside ≡ false → before ≡ diff ++ header place es → OnOk result (diff' ≡ before ++ row e)
      → OnOk result (diff' ≡ diff ++ shown place es)
  written-first is on outside head written =
      OnOk-map result (λ w. w ∙ ap (λ b. b ++ row e) head ∙ append_assoc diff (header place es) (row e)
      ∙ ap (λ fs. diff ++ (header place fs ++ row e)) is ∙ ap (λ r. diff ++ r) (sym (shown-first place e more (ap (is_shown place.behind) (sym is) ∙ on) outside))
      ∙ ap (λ fs. diff ++ shown place fs) (sym is)) written

  pub written-inside : es ≡ e ∷ more → is_shown place.behind es ≡ true → place.is_inside ≡ true → before ≡ diff → OnOk result (diff' ≡ before ++ row e)
      → OnOk result (diff' ≡ diff ++ shown place es)
  written-inside is on inside same written =
      OnOk-map result (λ w. w ∙ ap (λ b. b ++ row e) same ∙ ap (λ r. diff ++ r) (sym (shown-inside place e more (ap (is_shown place.behind) (sym is) ∙ on) inside))
      ∙ ap (λ fs. diff ++ shown place fs) (sym is)) written
