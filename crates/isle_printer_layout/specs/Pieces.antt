-- S-expressions as the pieces of a tape, which is built from last to first.
use Rattle.std.specs.Prelude.{◌≡◌, ℕ, ◌+◌, List, [], ◌∷◌, ◌++◌, Option, reverse, string_bytes}
use Rattle.isle_printer_layout.specs.declared.tape.Piece.{Piece}
use Rattle.isle_printer_layout.specs.declared.tape.Piece.TheVariants.{Borrowed, Owned, Name, Open, Close}
use Rattle.isle_printer_layout.specs.Flat.{counted, counted_items}
use Rattle.isle_printer_layout.specs.Lengths.{record_of}
use Rattle.isle_printer_layout.specs.Sexp.{Sexp, atom, binding, list_of, sexps}
use Rattle.isle_printer_layout.specs.SexpCode.{sexp_code}
use Rattle.std.specs.Coded.{Coded, coded×, coded_list}

-- The S-expressions on a tape: those of the innermost open list, and those of the lists around it.
abbrev pub Made : Type 0
Made = List Sexp × List (List Sexp)

-- a code, which proofs use to tell two of them apart
abbrev pub made_code : Coded Made
made_code = coded× (coded_list sexp_code) (coded_list (coded_list sexp_code))

abbrev pub nothing_made : Made
nothing_made = ([], [])

-- these S-expressions before those on the tape
abbrev pub put_before : List Sexp → Made → Made
put_before ss made = (ss ++ made.0, made.1)

-- the tape of the list around this one; empty if there is none
abbrev pub made_around : List (List Sexp) → Made
made_around [] = nothing_made
made_around (ss ∷ others) = (ss, others)

-- the first S-expression, or an empty list if there is none
abbrev pub first_made : List Sexp → Sexp
first_made [] = list_of []
first_made (s ∷ ss) = s

abbrev pub after_first : List Sexp → List Sexp
after_first [] = []
after_first (s ∷ ss) = ss

-- A piece before those on the tape. The end of a list opens a list, which is still empty.
abbrev pub put_piece : Piece → Made → Made
put_piece (Borrowed text) made = put_before (atom text.now ∷ []) made
put_piece (Owned text) made = put_before (atom (string_bytes text) ∷ []) made
put_piece (Name name) made = (binding name.now (first_made made.0) ∷ after_first made.0, made.1)
put_piece (Open length) made = put_before (list_of made.0 ∷ []) (made_around made.1)
put_piece Close made = ([], made.0 ∷ made.1)

-- the S-expression that a piece begins, whose other pieces come next
abbrev pub begun : Piece → Made → Sexp
begun piece made = first_made (put_piece piece made).0

-- the rest after the S-expression that a piece begins
abbrev pub after_begun : Piece → Made → Made
after_begun piece made = (after_first (put_piece piece made).0, (put_piece piece made).1)

-- the S-expressions of these pieces, from the first one on
abbrev pub read : List Piece → Made
read [] = nothing_made
read (p ∷ ps) = put_piece p (read ps)

-- there is an element
abbrev pub HasFirst : {X : Type 0} → List X → Type 0
HasFirst [] = ⊥
HasFirst (x ∷ xs) = Unit {0}

-- The S-expression of a binding comes after its name. The start of a list has an end, and the
-- record of the list's counted length.
abbrev pub FitsBefore : Piece → Made → Type 0
FitsBefore (Borrowed text) made = Unit {0}
FitsBefore (Owned text) made = Unit {0}
FitsBefore (Name name) made = HasFirst made.0
FitsBefore (Open length) made = (length ≡ record_of (counted (list_of made.0))) × HasFirst made.1
FitsBefore Close made = Unit {0}

-- a piece begins an S-expression
abbrev pub Begins : Piece → Made → Type 0
Begins piece made = HasFirst (put_piece piece made).0 × FitsBefore piece made

-- each of these pieces fits before the next ones
abbrev pub AllFit : List Piece → Type 0
AllFit [] = Unit {0}
AllFit (p ∷ ps) = FitsBefore p (read ps) × AllFit ps

-- The pieces are stored from last to first.
abbrev pub made_of : List Piece → Made
made_of pieces = read (reverse pieces)

abbrev pub FitTogether : List Piece → Type 0
FitTogether pieces = AllFit (reverse pieces)

-- the length of a list so far: 1, and for each item 1 more than the item
abbrev pub length_so_far : List Sexp → ℕ
length_so_far ss = 1 + counted_items (sexps ss)

-- the record of the length so far of the list around this one
abbrev pub IsRecordAround : Option ℕ → List (List Sexp) → Type 0
IsRecordAround length [] = ⊥
IsRecordAround length (ss ∷ others) = length ≡ record_of (length_so_far ss)
