-- The choice of broken lists in a layout of an S-expression: the least one that fits the width.
use Rattle.std.specs.Prelude.{◌≡◌, ℕ, ◌+◌, ◌≤◌, List, ◌++◌, length, codes, Option, None, Some}
use Rattle.isle_printer_layout.specs.Sexp.{Sexp, Sexps, atom, binding, list, none, more}
use Rattle.isle_printer_layout.specs.Flat.{flat, counted}
use Rattle.isle_printer_layout.specs.Layout.{new_line}

-- A choice of broken lists. A nonempty list is kept on one line, `None`, or broken, with a choice
-- for each item. So the lists around a broken list are all broken.
abbrev mutual
  pub Choice : Sexp → Type 0
  Choice (atom _) = Unit {0}
  Choice (binding _ s) = Choice s
  Choice (list none) = Unit {0}
  Choice (list (more s ss)) = Option (Choice s × Choices ss)

  pub Choices : Sexps → Type 0
  Choices none = Unit {0}
  Choices (more s ss) = Choice s × Choices ss

-- The text of a choice. A list that is not broken is on one line. A broken one is `(`, its first
-- item at the same level, each other item on a new line at one level more, and `)` on a new line.
abbrev mutual
  pub render : (s : Sexp) → Choice s → (level : ℕ) → List ℕ
  render (atom text) _ level = text
  render (binding name s) c level = name ++ codes " @ " ++ render s c level
  render (list none) _ level = codes "()"
  render (list (more s ss)) None level = flat (list (more s ss))
  render (list (more s ss)) (Some c) level = codes "(" ++ render s c.0 level ++ render_behind ss c.1 level

  pub render_behind : (ss : Sexps) → Choices ss → (level : ℕ) → List ℕ
  render_behind none _ level = new_line level ++ codes ")"
  render_behind (more s ss) c level =
      new_line (level + 1) ++ render s c.0 (level + 1) ++ render_behind ss c.1 level

-- A choice fits a width if each nonempty list that is not broken, in lists that all are, ends
-- within it: its column and its counted length are at most the width. The first item of a list is
-- one column after the list's, each other item is at column 0, and the S-expression of a binding
-- comes after the name and ` @ `. The spaces before a line don't count.
abbrev mutual
  pub FitsAt : (width : ℕ) (s : Sexp) (column : ℕ) → Choice s → Type 0
  FitsAt width (atom _) column _ = Unit {0}
  FitsAt width (binding name s) column c = FitsAt width s (column + length name + 3) c
  FitsAt width (list none) column _ = Unit {0}
  FitsAt width (list (more s ss)) column None = column + counted (list (more s ss)) ≤ width
  FitsAt width (list (more s ss)) column (Some c) = FitsAt width s (column + 1) c.0 × FitsBehind width ss c.1

  pub FitsBehind : (width : ℕ) (ss : Sexps) → Choices ss → Type 0
  FitsBehind width none _ = Unit {0}
  FitsBehind width (more s ss) c = FitsAt width s 0 c.0 × FitsBehind width ss c.1

abbrev pub Fits : (width : ℕ) (s : Sexp) → Choice s → Type 0
Fits width s c = FitsAt width s 0 c

-- each list that the one choice breaks, the other breaks too
abbrev mutual
  pub BreaksNoOther : (s : Sexp) → Choice s → Choice s → Type 0
  BreaksNoOther (atom _) _ _ = Unit {0}
  BreaksNoOther (binding _ s) c d = BreaksNoOther s c d
  BreaksNoOther (list none) _ _ = Unit {0}
  BreaksNoOther (list (more s ss)) None _ = Unit {0}
  BreaksNoOther (list (more s ss)) (Some c) None = ⊥
  BreaksNoOther (list (more s ss)) (Some c) (Some d) = BreaksNoOther s c.0 d.0 × BreakNoOther ss c.1 d.1

  pub BreakNoOther : (ss : Sexps) → Choices ss → Choices ss → Type 0
  BreakNoOther none _ _ = Unit {0}
  BreakNoOther (more s ss) c d = BreaksNoOther s c.0 d.0 × BreakNoOther ss c.1 d.1

-- the least choice that fits: every other choice that fits breaks all lists that it breaks
pub record IsLeast (width : ℕ) (s : Sexp) (choice : Choice s) : Type 0 where
  pub fits : Fits width s choice
  pub least : (other : Choice s) → Fits width s other → BreaksNoOther s choice other

-- The layout of an S-expression at a width: the text of the least choice that fits.
pub record IsLayout (width : ℕ) (s : Sexp) (text : List ℕ) : Type 0 where
  pub choice : Choice s
  pub least : IsLeast width s choice
  pub bytes : text ≡ render s choice 0
