-- A print has no CR.
use Rattle.std.proofs.Common.{◌≡◌, ℕ, ◌+◌, ◌-◌, ◌*◌, List, [], ◌∷◌, Bool, true, false, cond, leb, length, refl}
use Rattle.std.proofs.lemmas.Bool.{and_from, and_parts}
use Rattle.std.specs.List.{list_all}
use Rattle.isle_base.specs.Skips.{is_blank}
use Rattle.isle_base.specs.Spellings.{in_symbol}
use Rattle.isle_base.proofs.Bytes.{other_byte}
use Rattle.isle_tidy_core.specs.Ends.{is_no_return}
use Rattle.isle_tidy_core.specs.Fitting.{IsAtom}
use Rattle.isle_tidy_core.proofs.Outside.{atom_in}
use Rattle.isle_tidy_core.proofs.Plain.{HasNoReturn, HaveNoReturn}
use Rattle.isle_tidy_layout.specs.declared.entries.Gap.TheVariants.{Beside, Below}
use Rattle.isle_tidy_layout.specs.Entries.{closing, Entry}
use Rattle.isle_tidy_layout.specs.Printed.{Print, whole, flat_row, entry, flat_first, flat_rest, flat_items, print_first, print_rest, print_lines, printed_after, printed}
use Rattle.isle_tidy_layout.specs.Writing.{spelling}
use Rattle.isle_tidy_laws.specs.Prints.{flat_of, flats_of, print_in, broken_in, lines_in, prints_of, HasAtoms, HaveAtoms, AllHaveAtoms}
use Rattle.isle_printer_layout.specs.Flat.{counted}
use Rattle.isle_printer_layout.specs.Sexp.{Sexp, Sexps, atom, binding, list, none, more}

symbol_no_return : (b : ℕ) → in_symbol b ≡ true → is_no_return b ≡ true
unfolding in_symbol is_blank
symbol_no_return b h = rw (other_byte in_symbol b 13 h refl) refl

symbols_no_return : (bs : List ℕ) → list_all in_symbol bs ≡ true → HasNoReturn bs
symbols_no_return [] all = refl
symbols_no_return (b ∷ bs) all =
    let parts = and_parts (in_symbol b) (list_all in_symbol bs) all in
    and_from (is_no_return b) (list_all is_no_return bs) (symbol_no_return b parts.0) (symbols_no_return bs parts.1)

atom_no_return : (bytes : List ℕ) → IsAtom bytes → HasNoReturn bytes
atom_no_return bytes is = symbols_no_return bytes (atom_in bytes is)

mutual
  flat_no_return : (s : Sexp) (rest : List Entry) → HasAtoms s → HaveNoReturn rest → HasNoReturn (spelling (flat_first (flat_of s))) × HaveNoReturn (flat_rest (flat_of s) rest)
  flat_no_return (atom text) rest h r = (atom_no_return text h, r)
  flat_no_return (binding name s) rest h r = (atom_no_return name h.0, (refl, flat_no_return s rest h.1 r))
  flat_no_return (list none) rest h r = (refl, (refl, r))
  flat_no_return (list (more s ss)) rest h r = (refl, flat_no_return s (flat_items (Beside 1) (flats_of ss) (entry (Beside 0) closing ∷ rest)) h.0 (items_no_return ss rest h.1 r))

  items_no_return : (ss : Sexps) (rest : List Entry) → HaveAtoms ss → HaveNoReturn rest → HaveNoReturn (flat_items (Beside 1) (flats_of ss) (entry (Beside 0) closing ∷ rest))
  items_no_return none rest h r = (refl, r)
  items_no_return (more s ss) rest h r = flat_no_return s (flat_items (Beside 1) (flats_of ss) (entry (Beside 0) closing ∷ rest)) h.0 (items_no_return ss rest h.1 r)

abbrev PrintHasNone : Print → Type 0
PrintHasNone p = (level : ℕ) (rest : List Entry) → HaveNoReturn rest → HasNoReturn (spelling (print_first p)) × HaveNoReturn (print_rest level p rest)

list_no_return : (fits : Bool) (width : ℕ) (ss : Sexps) (room level : ℕ) → HaveAtoms ss → PrintHasNone (broken_in width ss room level) → PrintHasNone (cond fits (whole (flat_row (flats_of ss))) (broken_in width ss room level))
list_no_return true width ss room level h b = λ l rest r. flat_no_return (list ss) rest h r
list_no_return false width ss room level h b = b

mutual
  print_no_return : (width : ℕ) (s : Sexp) (room level : ℕ) → HasAtoms s → PrintHasNone (print_in width s room level)
  print_no_return width (atom text) room level h = λ l rest r. (atom_no_return text h, r)
  print_no_return width (binding name s) room level h = λ l rest r. (atom_no_return name h.0, (refl, print_no_return width s (room - length name - 3) level h.1 l rest r))
  print_no_return width (list ss) room level h = list_no_return (leb (counted (list ss)) room) width ss room level h (broken_no_return width ss room level h)

  broken_no_return : (width : ℕ) (ss : Sexps) (room level : ℕ) → HaveAtoms ss → PrintHasNone (broken_in width ss room level)
  broken_no_return width none room level h = λ l rest r. (refl, (refl, r))
  broken_no_return width (more s ss) room level h = λ l rest r.
      (refl, print_no_return width s (room - 1) level h.0 l (print_lines l (lines_in width ss level) (entry (Below 0 (4 * l)) closing ∷ rest)) (lines_no_return width ss level l h.1 (entry (Below 0 (4 * l)) closing ∷ rest) (refl, r)))

  lines_no_return : (width : ℕ) (ss : Sexps) (level l : ℕ) → HaveAtoms ss → (rest : List Entry) → HaveNoReturn rest → HaveNoReturn (print_lines l (lines_in width ss level) rest)
  lines_no_return width none level l h rest r = r
  lines_no_return width (more s ss) level l h rest r =
      print_no_return width s width (level + 1) h.0 (l + 1) (print_lines l (lines_in width ss level) rest) (lines_no_return width ss level l h.1 rest r)

after_no_return : (width : ℕ) (ss : List Sexp) → AllHaveAtoms ss → HaveNoReturn (printed_after (prints_of width ss))
after_no_return width [] h = tt
after_no_return width (s ∷ ss) h = print_no_return width s width 0 h.0 0 (printed_after (prints_of width ss)) (after_no_return width ss h.1)

pub printed_no_return : (width : ℕ) (ss : List Sexp) → AllHaveAtoms ss → HaveNoReturn (printed (prints_of width ss))
printed_no_return width [] h = tt
printed_no_return width (s ∷ ss) h = print_no_return width s width 0 h.0 0 (printed_after (prints_of width ss)) (after_no_return width ss h.1)
