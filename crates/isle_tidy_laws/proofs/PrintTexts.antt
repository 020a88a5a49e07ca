-- The entries of a print are written as the printer lays it out.
use Rattle.std.proofs.Common.{◌≡◌, ℕ, ◌+◌, ◌-◌, ◌*◌, List, [], ◌∷◌, ◌++◌, length, codes, replicate, Bool, true, false, cond, leb, refl, sym, ap, ◌∙◌}
use Rattle.std.proofs.lemmas.List.{append_assoc}
use Rattle.isle_tidy_layout.specs.declared.entries.Gap.TheVariants.{Beside, Below}
use Rattle.isle_tidy_layout.specs.Entries.{closing, Entry}
use Rattle.isle_tidy_layout.specs.Printed.{whole, flat_row, entry, flat_first, flat_rest, flat_items, print_first, print_rest, print_lines, printed_after, printed}
use Rattle.isle_tidy_layout.specs.Writing.{spelling, written, written_after}
use Rattle.isle_tidy_laws.specs.Prints.{flat_of, flats_of, print_in, broken_in, lines_in, prints_of, print_after, print_of}
use Rattle.isle_printer_layout.specs.Flat as flat_texts
use Rattle.isle_printer_layout.specs.Layout.{new_line, layout_in, layout_broken, layout_behind, layout}
use Rattle.isle_printer_layout.specs.Sexp.{Sexp, Sexps, atom, binding, list, none, more}

binding_text : (name bound rest : List ℕ) → name ++ (32 ∷ 64 ∷ 32 ∷ (bound ++ rest)) ≡ (name ++ codes " @ " ++ bound) ++ rest
binding_text name bound rest =
    sym (append_assoc (name ++ codes " @ ") bound rest ∙ append_assoc name (codes " @ ") (bound ++ rest))

regrouped : (a b c d : List ℕ) → ((a ++ b) ++ c) ++ d ≡ a ++ (b ++ (c ++ d))
regrouped a b c d = append_assoc (a ++ b) c d ∙ append_assoc a b (c ++ d)

abbrev FlatText : Sexp → Type 0
FlatText s = (rest : List Entry) → spelling (flat_first (flat_of s)) ++ written_after (flat_rest (flat_of s) rest) ≡ flat_texts.flat s ++ written_after rest

abbrev ItemsText : Sexps → Type 0
ItemsText ss =
    (rest : List Entry) → written_after (flat_items (Beside 1) (flats_of ss) (entry (Beside 0) closing ∷ rest)) ≡ flat_texts.flat_behind ss ++ written_after rest

flat_list : (s : Sexp) (ss : Sexps) → FlatText s → ItemsText ss → FlatText (list (more s ss))
flat_list s ss first items rest =
    ap (λ xs. 40 ∷ xs) (first (flat_items (Beside 1) (flats_of ss) (entry (Beside 0) closing ∷ rest)))
    ∙ ap (λ xs. 40 ∷ (flat_texts.flat s ++ xs)) (items rest)
    ∙ sym (regrouped (codes "(") (flat_texts.flat s) (flat_texts.flat_behind ss) (written_after rest))

items_more : (s : Sexp) (ss : Sexps) → FlatText s → ItemsText ss → ItemsText (more s ss)
items_more s ss first items rest =
    ap (λ xs. 32 ∷ xs) (first (flat_items (Beside 1) (flats_of ss) (entry (Beside 0) closing ∷ rest)))
    ∙ ap (λ xs. 32 ∷ (flat_texts.flat s ++ xs)) (items rest)
    ∙ sym (regrouped (codes " ") (flat_texts.flat s) (flat_texts.flat_behind ss) (written_after rest))

mutual
  flat_text : (s : Sexp) → FlatText s
  flat_text (atom text) = λ rest. refl
  flat_text (binding name s) = λ rest.
      ap (λ xs. name ++ (32 ∷ 64 ∷ 32 ∷ xs)) (flat_text s rest) ∙ binding_text name (flat_texts.flat s) (written_after rest)
  flat_text (list none) = λ rest. refl
  flat_text (list (more s ss)) = flat_list s ss (flat_text s) (items_text ss)

  items_text : (ss : Sexps) → ItemsText ss
  items_text none = λ rest. refl
  items_text (more s ss) = items_more s ss (flat_text s) (items_text ss)

abbrev PrintText : ℕ → Sexp → Type 0
PrintText width s =
    (room level : ℕ) (rest : List Entry)
    → spelling (print_first (print_in width s room level)) ++ written_after (print_rest level (print_in width s room level) rest) ≡ layout_in width s room level ++ written_after rest

abbrev BrokenText : ℕ → Sexps → Type 0
BrokenText width ss =
    (room level : ℕ) (rest : List Entry)
    → spelling (print_first (broken_in width ss room level)) ++ written_after (print_rest level (broken_in width ss room level) rest)
    ≡ layout_broken width ss room level ++ written_after rest

abbrev LinesText : ℕ → Sexps → Type 0
LinesText width ss =
    (level : ℕ) (rest : List Entry)
    → written_after (print_lines level (lines_in width ss level) (entry (Below 0 (4 * level)) closing ∷ rest)) ≡ layout_behind width ss level ++ written_after rest

list_by : (fits : Bool) (width : ℕ) (ss : Sexps) → BrokenText width ss → (room level : ℕ) (rest : List Entry)
    → spelling (print_first (cond fits (whole (flat_row (flats_of ss))) (broken_in width ss room level)))
    ++ written_after (print_rest level (cond fits (whole (flat_row (flats_of ss))) (broken_in width ss room level)) rest)
    ≡ cond fits (flat_texts.flat (list ss)) (layout_broken width ss room level) ++ written_after rest
list_by true width ss lines room level rest = flat_text (list ss) rest
list_by false width ss lines room level rest = lines room level rest

broken_more : (width : ℕ) (s : Sexp) (ss : Sexps) → PrintText width s → LinesText width ss → BrokenText width (more s ss)
broken_more width s ss first lines room level rest =
    ap (λ xs. 40 ∷ xs) (first (room - 1) level (print_lines level (lines_in width ss level) (entry (Below 0 (4 * level)) closing ∷ rest)))
    ∙ ap (λ xs. 40 ∷ (layout_in width s (room - 1) level ++ xs)) (lines level rest)
    ∙ sym (regrouped (codes "(") (layout_in width s (room - 1) level) (layout_behind width ss level) (written_after rest))

lines_more : (width : ℕ) (s : Sexp) (ss : Sexps) → PrintText width s → LinesText width ss → LinesText width (more s ss)
lines_more width s ss first lines level rest =
    let indent = replicate (4 * (level + 1)) 32 in
    let text = layout_in width s width (level + 1) in
    ap (λ xs. 10 ∷ (indent ++ xs)) (first width (level + 1) (print_lines level (lines_in width ss level) (entry (Below 0 (4 * level)) closing ∷ rest)))
    ∙ ap (λ xs. 10 ∷ (indent ++ (text ++ xs))) (lines level rest)
    ∙ sym (regrouped (new_line (level + 1)) text (layout_behind width ss level) (written_after rest))

mutual
  print_text : (width : ℕ) (s : Sexp) → PrintText width s
  print_text width (atom text) = λ room level rest. refl
  print_text width (binding name s) = λ room level rest.
      ap (λ xs. name ++ (32 ∷ 64 ∷ 32 ∷ xs)) (print_text width s (room - length name - 3) level rest)
      ∙ binding_text name (layout_in width s (room - length name - 3) level) (written_after rest)
  print_text width (list ss) = λ room level rest. list_by (leb (flat_texts.counted (list ss)) room) width ss (broken_text width ss) room level rest

  broken_text : (width : ℕ) (ss : Sexps) → BrokenText width ss
  broken_text width none = λ room level rest. refl
  broken_text width (more s ss) = broken_more width s ss (print_text width s) (lines_text width ss)

  lines_text : (width : ℕ) (ss : Sexps) → LinesText width ss
  lines_text width none = λ level rest. ap (λ xs. 10 ∷ xs) (sym (append_assoc (replicate (4 * level) 32) (codes ")") (written_after rest)))
  lines_text width (more s ss) = lines_more width s ss (print_text width s) (lines_text width ss)

end_here : (first rest : List ℕ) → first ++ (10 ∷ rest) ≡ (first ++ 10 ∷ []) ++ rest
end_here first rest = sym (append_assoc first (10 ∷ []) rest)

after_text : (width : ℕ) (ss : List Sexp) → written_after (printed_after (prints_of width ss)) ≡ 10 ∷ print_after width ss
after_text width [] = refl
after_text width (s ∷ ss) =
    ap (λ xs. 10 ∷ 10 ∷ xs) (print_text width s width 0 (printed_after (prints_of width ss)))
    ∙ ap (λ xs. 10 ∷ 10 ∷ (layout width s ++ xs)) (after_text width ss)
    ∙ ap (λ xs. 10 ∷ 10 ∷ xs) (end_here (layout width s) (print_after width ss))

pub printed_text : (width : ℕ) (ss : List Sexp) → written (printed (prints_of width ss)) ≡ print_of width ss
printed_text width [] = refl
printed_text width (s ∷ ss) =
    print_text width s width 0 (printed_after (prints_of width ss))
    ∙ ap (λ xs. layout width s ++ xs) (after_text width ss)
    ∙ end_here (layout width s) (print_after width ss)
