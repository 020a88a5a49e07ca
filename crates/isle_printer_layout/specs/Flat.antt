-- An S-expression on one line, and its counted length.
use Rattle.std.specs.Prelude.{ℕ, ◌+◌, List, ◌++◌, length, codes}
use Rattle.isle_printer_layout.specs.Sexp.{Sexp, Sexps, atom, binding, list, none, more}

-- All on one line: `(`, the items with one space between two, `)`. A binding is its name, ` @ ` and
-- its S-expression.
abbrev mutual
  pub flat : Sexp → List ℕ
  flat (atom text) = text
  flat (binding name s) = name ++ codes " @ " ++ flat s
  flat (list none) = codes "()"
  flat (list (more s ss)) = codes "(" ++ flat s ++ flat_behind ss

  -- the items after the first one, and the end of the list
  pub flat_behind : Sexps → List ℕ
  flat_behind none = codes ")"
  flat_behind (more s ss) = codes " " ++ flat s ++ flat_behind ss

-- The counted length, which decides whether a list is broken. An atom counts its bytes. A binding
-- counts the bytes of its name, 3, and its S-expression. A list counts 1, and for each item the
-- item and 1. So it is the number of bytes on one line, except that an empty list counts 1 and has
-- two bytes.
abbrev mutual
  pub counted : Sexp → ℕ
  counted (atom text) = length text
  counted (binding name s) = length name + 3 + counted s
  counted (list items) = 1 + counted_items items

  pub counted_items : Sexps → ℕ
  counted_items none = 0
  counted_items (more s ss) = 1 + counted s + counted_items ss
