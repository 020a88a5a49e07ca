-- The entries of a print are its document, and stay where they are.
use Rattle.std.proofs.Common.{◌≡◌, ℕ, ◌+◌, ◌-◌, ◌*◌, suc, List, [], ◌∷◌, Bool, true, false, cond, leb, length, refl, sym, ap, ◌∙◌, subst}
use Rattle.isle_tidy_core.specs.Fitting.{IsLexeme, AreFit, may_touch}
use Rattle.isle_tidy_core.specs.Grammar.{IsDocument, matches, lexemes}
use Rattle.isle_tidy_core.specs.Streams.{IsPlain}
use Rattle.isle_tidy_core.specs.Tidied.{IsTidyTextOf}
use Rattle.isle_tidy_core.proofs.Keeps.{document_spelt}
use Rattle.isle_tidy_core.proofs.Marks.{placed_no_mark}
use Rattle.isle_tidy_core.proofs.Plain.{placed_plain}
use Rattle.isle_tidy_core.proofs.TidyTexts.{plain_tidy}
use Rattle.isle_tidy_layout.specs.declared.entries.Gap.TheVariants.{Beside, Below}
use Rattle.isle_tidy_layout.specs.declared.placing.Kind.TheVariants.{Start, Open, Close, Atom}
use Rattle.isle_tidy_layout.specs.Entries.{closing, Entry}
use Rattle.isle_tidy_layout.specs.Placing.{kind_of, placed}
use Rattle.isle_tidy_layout.specs.Printed.{Print, whole, flat_row, entry, flat_first, flat_rest, flat_items, print_first, print_rest, print_lines, printed_after, printed, is_plain_print}
use Rattle.isle_tidy_layout.specs.Printed as mirror
use Rattle.isle_tidy_layout.specs.Writing.{written}
use Rattle.isle_tidy_layout.proofs.Prints.{prints_tidy}
use Rattle.isle_tidy_laws.specs.Prints.{flat_of, flats_of, print_in, broken_in, lines_in, prints_of, print_of, HasAtoms, HaveAtoms, AllHaveAtoms, is_plain, HasPlainHeads, HavePlainHeads, AllHavePlainHeads}
use Rattle.isle_tidy_laws.proofs.PrintReturns.{printed_no_return}
use Rattle.isle_tidy_laws.proofs.PrintTexts.{printed_text}
use Rattle.isle_printer_layout.specs.Flat.{counted}
use Rattle.isle_printer_layout.specs.Sexp.{Sexp, Sexps, atom, binding, list, none, more}

-- entries that fit after an atom and after `)`
abbrev Fit : List Entry → Type 0
Fit rest = AreFit Atom rest × AreFit Close rest

first_lexeme : (s : Sexp) → HasAtoms s → IsLexeme (flat_first (flat_of s))
first_lexeme (atom text) h = h
first_lexeme (binding name s) h = h.0
first_lexeme (list ss) h = tt

first_touches : (s : Sexp) → may_touch Open (kind_of (flat_first (flat_of s))) ≡ true
first_touches (atom text) = refl
first_touches (binding name s) = refl
first_touches (list ss) = refl

abbrev end_fits : (rest : List Entry) → Fit rest → Fit (entry (Beside 0) closing ∷ rest)
end_fits rest f = ((tt, refl, f.1), (tt, refl, f.1))

mutual
  flat_fits : (s : Sexp) (rest : List Entry) → HasAtoms s → Fit rest → AreFit (kind_of (flat_first (flat_of s))) (flat_rest (flat_of s) rest)
  flat_fits (atom text) rest h f = f.0
  flat_fits (binding name s) rest h f = (tt, refl, (first_lexeme s h.1, refl, flat_fits s rest h.1 f))
  flat_fits (list none) rest h f = (tt, refl, f.1)
  flat_fits (list (more s ss)) rest h f = (first_lexeme s h.0, first_touches s, flat_fits s (flat_items (Beside 1) (flats_of ss) (entry (Beside 0) closing ∷ rest)) h.0 (items_fit ss rest h.1 f))

  items_fit : (ss : Sexps) (rest : List Entry) → HaveAtoms ss → Fit rest → Fit (flat_items (Beside 1) (flats_of ss) (entry (Beside 0) closing ∷ rest))
  items_fit none rest h f = end_fits rest f
  items_fit (more s ss) rest h f =
      let behind = flat_fits s (flat_items (Beside 1) (flats_of ss) (entry (Beside 0) closing ∷ rest)) h.0 (items_fit ss rest h.1 f) in
      ((first_lexeme s h.0, refl, behind), (first_lexeme s h.0, refl, behind))

abbrev PrintFits : Print → Type 0
PrintFits p = IsLexeme (print_first p) × (may_touch Open (kind_of (print_first p)) ≡ true) × ((level : ℕ) (rest : List Entry) → Fit rest → AreFit (kind_of (print_first p)) (print_rest level p rest))

list_fits : (fits : Bool) (width : ℕ) (ss : Sexps) (room level : ℕ) → HaveAtoms ss → PrintFits (broken_in width ss room level) → PrintFits (cond fits (whole (flat_row (flats_of ss))) (broken_in width ss room level))
list_fits true width ss room level h b = (tt, refl, λ l rest f. flat_fits (list ss) rest h f)
list_fits false width ss room level h b = b

shut_fits : (level : ℕ) (rest : List Entry) → Fit rest → Fit (entry (Below 0 (4 * level)) closing ∷ rest)
shut_fits level rest f = ((tt, refl, f.1), (tt, refl, f.1))

mutual
  print_fits : (width : ℕ) (s : Sexp) (room level : ℕ) → HasAtoms s → PrintFits (print_in width s room level)
  print_fits width (atom text) room level h = (h, refl, λ l rest f. f.0)
  print_fits width (binding name s) room level h =
      let inner = print_fits width s (room - length name - 3) level h.1 in
      (h.0, refl, λ l rest f. (tt, refl, (inner.0, refl, inner.2 l rest f)))
  print_fits width (list ss) room level h = list_fits (leb (counted (list ss)) room) width ss room level h (broken_fits width ss room level h)

  broken_fits : (width : ℕ) (ss : Sexps) (room level : ℕ) → HaveAtoms ss → PrintFits (broken_in width ss room level)
  broken_fits width none room level h = (tt, refl, λ l rest f. (tt, refl, f.1))
  broken_fits width (more s ss) room level h =
      let inner = print_fits width s (room - 1) level h.0 in
      (tt, refl, λ l rest f. (inner.0, inner.1, inner.2 l (print_lines l (lines_in width ss level) (entry (Below 0 (4 * l)) closing ∷ rest)) (lines_fit width ss level l h.1 (entry (Below 0 (4 * l)) closing ∷ rest) (shut_fits l rest f))))

  lines_fit : (width : ℕ) (ss : Sexps) (level l : ℕ) → HaveAtoms ss → (rest : List Entry) → Fit rest → Fit (print_lines l (lines_in width ss level) rest)
  lines_fit width none level l h rest f = f
  lines_fit width (more s ss) level l h rest f =
      let inner = print_fits width s width (level + 1) h.0 in
      let behind = inner.2 (l + 1) (print_lines l (lines_in width ss level) rest) (lines_fit width ss level l h.1 rest f) in
      ((inner.0, refl, behind), (inner.0, refl, behind))

after_fit : (width : ℕ) (ss : List Sexp) → AllHaveAtoms ss → Fit (printed_after (prints_of width ss))
after_fit width [] h = (tt, tt)
after_fit width (s ∷ ss) h =
    let inner = print_fits width s width 0 h.0 in
    let behind = inner.2 0 (printed_after (prints_of width ss)) (after_fit width ss h.1) in
    ((inner.0, refl, behind), (inner.0, refl, behind))

printed_fit : (width : ℕ) (ss : List Sexp) → AllHaveAtoms ss → AreFit Start (printed (prints_of width ss))
printed_fit width [] h = tt
printed_fit width (s ∷ ss) h =
    let inner = print_fits width s width 0 h.0 in
    (inner.0, refl, inner.2 0 (printed_after (prints_of width ss)) (after_fit width ss h.1))

-- their parentheses match

mutual
  flat_match : (s : Sexp) (d : ℕ) (rest : List Entry) → matches d (flat_first (flat_of s) ∷ lexemes (flat_rest (flat_of s) rest)) ≡ matches d (lexemes rest)
  flat_match (atom text) d rest = refl
  flat_match (binding name s) d rest = flat_match s d rest
  flat_match (list none) d rest = refl
  flat_match (list (more s ss)) d rest =
      flat_match s (suc d) (flat_items (Beside 1) (flats_of ss) (entry (Beside 0) closing ∷ rest)) ∙ items_match ss d rest

  items_match : (ss : Sexps) (d : ℕ) (rest : List Entry) → matches (suc d) (lexemes (flat_items (Beside 1) (flats_of ss) (entry (Beside 0) closing ∷ rest))) ≡ matches d (lexemes rest)
  items_match none d rest = refl
  items_match (more s ss) d rest =
      flat_match s (suc d) (flat_items (Beside 1) (flats_of ss) (entry (Beside 0) closing ∷ rest)) ∙ items_match ss d rest

abbrev PrintMatches : Print → Type 0
PrintMatches p = (l d : ℕ) (rest : List Entry) → matches d (print_first p ∷ lexemes (print_rest l p rest)) ≡ matches d (lexemes rest)

list_match : (fits : Bool) (width : ℕ) (ss : Sexps) (room level : ℕ) → PrintMatches (broken_in width ss room level) → PrintMatches (cond fits (whole (flat_row (flats_of ss))) (broken_in width ss room level))
list_match true width ss room level b = λ l d rest. flat_match (list ss) d rest
list_match false width ss room level b = b

mutual
  print_match : (width : ℕ) (s : Sexp) (room level : ℕ) → PrintMatches (print_in width s room level)
  print_match width (atom text) room level = λ l d rest. refl
  print_match width (binding name s) room level = print_match width s (room - length name - 3) level
  print_match width (list ss) room level = list_match (leb (counted (list ss)) room) width ss room level (broken_match width ss room level)

  broken_match : (width : ℕ) (ss : Sexps) (room level : ℕ) → PrintMatches (broken_in width ss room level)
  broken_match width none room level = λ l d rest. refl
  broken_match width (more s ss) room level = λ l d rest.
      print_match width s (room - 1) level l (suc d) (print_lines l (lines_in width ss level) (entry (Below 0 (4 * l)) closing ∷ rest)) ∙ lines_match width ss level l d rest

  lines_match : (width : ℕ) (ss : Sexps) (level l d : ℕ) (rest : List Entry) → matches (suc d) (lexemes (print_lines l (lines_in width ss level) (entry (Below 0 (4 * l)) closing ∷ rest))) ≡ matches d (lexemes rest)
  lines_match width none level l d rest = refl
  lines_match width (more s ss) level l d rest =
      print_match width s width (level + 1) (l + 1) (suc d) (print_lines l (lines_in width ss level) (entry (Below 0 (4 * l)) closing ∷ rest)) ∙ lines_match width ss level l d rest

after_match : (width : ℕ) (ss : List Sexp) → matches 0 (lexemes (printed_after (prints_of width ss))) ≡ true
after_match width [] = refl
after_match width (s ∷ ss) = print_match width s width 0 0 0 (printed_after (prints_of width ss)) ∙ after_match width ss

printed_match : (width : ℕ) (ss : List Sexp) → matches 0 (lexemes (printed (prints_of width ss))) ≡ true
printed_match width [] = refl
printed_match width (s ∷ ss) = print_match width s width 0 0 0 (printed_after (prints_of width ss)) ∙ after_match width ss

-- no broken list begins with a binding

cond_plain : (fits : Bool) (width : ℕ) (ss : Sexps) (room level : ℕ) → is_plain_print (broken_in width ss room level) ≡ true → is_plain_print (cond fits (whole (flat_row (flats_of ss))) (broken_in width ss room level)) ≡ true
cond_plain true width ss room level h = refl
cond_plain false width ss room level h = h

broken_plain : (width : ℕ) (ss : Sexps) (room level : ℕ) → is_plain_print (broken_in width ss room level) ≡ true
broken_plain width none room level = refl
broken_plain width (more s ss) room level = refl

first_plain : (width : ℕ) (s : Sexp) (room level : ℕ) → is_plain s ≡ true → is_plain_print (print_in width s room level) ≡ true
first_plain width (atom text) room level h = refl
first_plain width (binding name s) room level h = cc
first_plain width (list ss) room level h = cond_plain (leb (counted (list ss)) room) width ss room level (broken_plain width ss room level)

cond_heads : (fits : Bool) (width : ℕ) (ss : Sexps) (room level : ℕ) → mirror.HasPlainHeads (broken_in width ss room level) → mirror.HasPlainHeads (cond fits (whole (flat_row (flats_of ss))) (broken_in width ss room level))
cond_heads true width ss room level h = tt
cond_heads false width ss room level h = h

mutual
  print_heads : (width : ℕ) (s : Sexp) (room level : ℕ) → HasPlainHeads s → mirror.HasPlainHeads (print_in width s room level)
  print_heads width (atom text) room level h = tt
  print_heads width (binding name s) room level h = print_heads width s (room - length name - 3) level h
  print_heads width (list none) room level h = cond_heads (leb (counted (list none)) room) width none room level tt
  print_heads width (list (more s ss)) room level h =
      cond_heads (leb (counted (list (more s ss))) room) width (more s ss) room level
      (first_plain width s (room - 1) level h.0, print_heads width s (room - 1) level h.1.0, lines_heads width ss level h.1.1)

  lines_heads : (width : ℕ) (ss : Sexps) (level : ℕ) → HavePlainHeads ss → mirror.HavePlainHeads (lines_in width ss level)
  lines_heads width none level h = tt
  lines_heads width (more s ss) level h = (print_heads width s width (level + 1) h.0, lines_heads width ss level h.1)

all_heads : (width : ℕ) (ss : List Sexp) → AllHavePlainHeads ss → mirror.AllHavePlainHeads (prints_of width ss)
all_heads width [] h = tt
all_heads width (s ∷ ss) h = (print_heads width s width 0 h.0, all_heads width ss h.1)

pub print_tidy : (width : ℕ) (ss : List Sexp) → AllHaveAtoms ss → AllHavePlainHeads ss → IsTidyTextOf (print_of width ss) (print_of width ss)
print_tidy width ss h p =
    let es = printed (prints_of width ss) in
    let text = printed_text width ss in
    let whole_document : IsDocument (written es) es = (document_spelt es (printed_fit width ss h), printed_match width ss) in
    let stays : placed es ≡ es = prints_tidy (prints_of width ss) (all_heads width ss p) in
    let same : written (placed es) ≡ print_of width ss = ap written stays ∙ text in
    let plain : IsPlain (print_of width ss) = subst IsPlain same (placed_plain es (printed_no_return width ss h), placed_no_mark (written es) es whole_document) in
    plain_tidy (print_of width ss) (print_of width ss) plain (record {
      document = es;
      is_document = subst (λ xs. IsDocument xs es) text whole_document;
      is_written = sym same;
    })
