-- The print of S-expressions, and how each is written in it.
use Rattle.std.specs.Prelude.{◌≡◌, ℕ, ◌+◌, ◌-◌, List, [], ◌∷◌, ◌++◌, Bool, true, false, length, nat_le, if◌then◌else◌}
use Rattle.isle_base.specs.Bytes.{line_feed}
use Rattle.isle_tidy_core.specs.Fitting.{IsAtom}
use Rattle.isle_tidy_layout.specs.Printed.{Flat, flat_atom, flat_binding, flat_row, Flats, flat_none, flat_more, Print, whole, binding as bound, broken, Prints, none as no_print, more as more_prints}
use Rattle.isle_printer_layout.specs.Flat.{counted}
use Rattle.isle_printer_layout.specs.Layout.{layout}
use Rattle.isle_printer_layout.specs.Sexp.{Sexp, Sexps, atom, binding, list, none, more}

-- an S-expression on one line
abbrev mutual
  pub flat_of : Sexp → Flat
  flat_of (atom text) = flat_atom text
  flat_of (binding name s) = flat_binding name (flat_of s)
  flat_of (list ss) = flat_row (flats_of ss)

  pub flats_of : Sexps → Flats
  flats_of none = flat_none
  flats_of (more s ss) = flat_more (flat_of s) (flats_of ss)

-- and at a width, where the line has this room left, at a level: as the layout of the printer has it
abbrev mutual
  pub print_in : (width : ℕ) → Sexp → (room level : ℕ) → Print
  print_in width (atom text) room level = whole (flat_atom text)
  print_in width (binding name s) room level = bound name (print_in width s (room - length name - 3) level)
  print_in width (list ss) room level =
      if nat_le (counted (list ss)) room then whole (flat_row (flats_of ss)) else broken_in width ss room level

  pub broken_in : (width : ℕ) → Sexps → (room level : ℕ) → Print
  broken_in width none room level = whole (flat_row flat_none)
  broken_in width (more s ss) room level = broken (print_in width s (room - 1) level) (lines_in width ss level)

  pub lines_in : (width : ℕ) → Sexps → (level : ℕ) → Prints
  lines_in width none level = no_print
  lines_in width (more s ss) level = more_prints (print_in width s width (level + 1)) (lines_in width ss level)

abbrev pub prints_of : ℕ → List Sexp → List Print
prints_of width [] = []
prints_of width (s ∷ ss) = print_in width s width 0 ∷ prints_of width ss

-- The print of S-expressions at a width, as that of definitions: the layout of each one and a LF,
-- with one more LF between two.
abbrev pub print_after : ℕ → List Sexp → List ℕ
print_after width [] = []
print_after width (s ∷ ss) = line_feed ∷ (layout width s ++ line_feed ∷ []) ++ print_after width ss

abbrev pub print_of : ℕ → List Sexp → List ℕ
print_of width [] = []
print_of width (s ∷ ss) = (layout width s ++ line_feed ∷ []) ++ print_after width ss

-- each atom, and each name of a binding, is the text of a symbol or of an integer
abbrev mutual
  pub HasAtoms : Sexp → Type 0
  HasAtoms (atom text) = IsAtom text
  HasAtoms (binding name s) = IsAtom name × HasAtoms s
  HasAtoms (list ss) = HaveAtoms ss

  pub HaveAtoms : Sexps → Type 0
  HaveAtoms none = Unit {0}
  HaveAtoms (more s ss) = HasAtoms s × HaveAtoms ss

abbrev pub AllHaveAtoms : List Sexp → Type 0
AllHaveAtoms [] = Unit {0}
AllHaveAtoms (s ∷ ss) = HasAtoms s × AllHaveAtoms ss

-- no binding
abbrev pub is_plain : Sexp → Bool
is_plain (atom text) = true
is_plain (binding name s) = false
is_plain (list ss) = true

-- the first of these is no binding
abbrev pub BeginsPlain : Sexps → Type 0
BeginsPlain none = Unit {0}
BeginsPlain (more s ss) = is_plain s ≡ true

-- no list begins with a binding
abbrev mutual
  pub HasPlainHeads : Sexp → Type 0
  HasPlainHeads (atom text) = Unit {0}
  HasPlainHeads (binding name s) = HasPlainHeads s
  HasPlainHeads (list ss) = BeginsPlain ss × HavePlainHeads ss

  pub HavePlainHeads : Sexps → Type 0
  HavePlainHeads none = Unit {0}
  HavePlainHeads (more s ss) = HasPlainHeads s × HavePlainHeads ss

abbrev pub AllHavePlainHeads : List Sexp → Type 0
AllHavePlainHeads [] = Unit {0}
AllHavePlainHeads (s ∷ ss) = HasPlainHeads s × AllHavePlainHeads ss
