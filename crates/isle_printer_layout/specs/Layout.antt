-- The layout of an S-expression at a width, as a recursion. Columns count the bytes written on the
-- line, without indentation. `room` is the room left on the line: the width minus the column, or 0
-- past the width. The counted length of a list is at least 1, so it ends within the width exactly
-- if its length is at most the room.
use Rattle.std.specs.Prelude.{ℕ, ◌+◌, ◌-◌, ◌*◌, List, ◌∷◌, ◌++◌, length, replicate, codes, nat_le, if◌then◌else◌}
use Rattle.isle_base.specs.Bytes.{line_feed, space}
use Rattle.isle_printer_layout.specs.Sexp.{Sexp, Sexps, atom, binding, list, none, more}
use Rattle.isle_printer_layout.specs.Flat.{flat, counted}

-- a new line: LF, and four spaces for each level
abbrev pub new_line : ℕ → List ℕ
new_line level = line_feed ∷ replicate (4 * level) space

-- An atom is written. A binding is its name, ` @ ` and its S-expression. A list is written on this
-- line if its counted length is at most the room, and is broken otherwise.
abbrev mutual
  pub layout_in : (width : ℕ) → Sexp → (room level : ℕ) → List ℕ
  layout_in width (atom text) room level = text
  layout_in width (binding name s) room level = name ++ codes " @ " ++ layout_in width s (room - length name - 3) level
  layout_in width (list items) room level =
      if nat_le (counted (list items)) room then flat (list items) else layout_broken width items room level

  -- A broken list: `(`, the first item at the same level, each other item on a new line with the
  -- whole width at one level more, and `)` on a new line at the list's level. An empty list can't
  -- be broken: it is `()` even if it doesn't fit.
  pub layout_broken : (width : ℕ) → Sexps → (room level : ℕ) → List ℕ
  layout_broken width none room level = codes "()"
  layout_broken width (more s ss) room level =
      codes "(" ++ layout_in width s (room - 1) level ++ layout_behind width ss level

  -- the items after the first one of a broken list, and the end of the list
  pub layout_behind : (width : ℕ) → Sexps → (level : ℕ) → List ℕ
  layout_behind width none level = new_line level ++ codes ")"
  layout_behind width (more s ss) level =
      new_line (level + 1) ++ layout_in width s width (level + 1) ++ layout_behind width ss level

-- the layout at a width, from the start of a line and at level 0
abbrev pub layout : ℕ → Sexp → List ℕ
layout width s = layout_in width s width 0
