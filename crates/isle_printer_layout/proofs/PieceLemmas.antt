-- Pieces that are put before others.
use Rattle.std.proofs.Common.{◌≡◌, ℕ, ◌+◌, List, [], ◌∷◌, ◌++◌, arith, ap, length, Option, reverse, ◌∙◌}
use Rattle.std.proofs.lemmas.List.{reverse-append}
use Rattle.isle_printer_layout.specs.declared.tape.Piece.{Piece}
use Rattle.isle_printer_layout.specs.Pieces.{HasFirst, IsRecordAround, made_around, after_first, first_made, length_so_far}
use Rattle.isle_printer_layout.specs.Lengths.{record_of}
use Rattle.isle_printer_layout.specs.Sexp.{Sexp, binding, list_of}

-- what is put last in memory stands first
pub stands_first : (old new : List Piece) (p : Piece) → new ≡ old ++ p ∷ [] → reverse new ≡ p ∷ reverse old
stands_first old new p is = ap reverse is ∙ reverse-append old (p ∷ [])

-- a name and its sign count as many bytes more
pub binding_counts : (name : List ℕ) (ss : List Sexp) → HasFirst ss → length_so_far ss + length name + 3 ≡ length_so_far (binding name (first_made ss) ∷ after_first ss)
binding_counts name [] full = absurd full
binding_counts name (s ∷ ss) full = omega arith

-- a list counts 1 more than itself in the list around it
pub list_counts : (ss outer : List Sexp) → length_so_far outer + length_so_far ss + 1 ≡ length_so_far (list_of ss ∷ outer)
list_counts ss outer = omega arith

-- what is recorded of the list around this one says that there is one
pub has_list_around : (n : Option ℕ) (others : List (List Sexp)) → IsRecordAround n others → HasFirst others
has_list_around n [] is = is
has_list_around n (ss ∷ others) is = tt

pub record_around : (n : Option ℕ) (others : List (List Sexp)) → IsRecordAround n others → n ≡ record_of (length_so_far (made_around others).0)
record_around n [] is = absurd is
record_around n (ss ∷ others) is = is
