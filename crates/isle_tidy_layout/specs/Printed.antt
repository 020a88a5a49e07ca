-- The entries of a print: a list that is kept whole stands on one line; a broken one is `(`, its first
-- item, each other item on a new line at one level more, and `)` on a new line at its level.
use Rattle.std.specs.Prelude.{◌≡◌, ℕ, ◌+◌, ◌*◌, Bool, true, false, List, [], ◌∷◌}
use Rattle.isle_tidy_layout.specs.declared.entries.Gap.{Gap}
use Rattle.isle_tidy_layout.specs.declared.entries.Gap.TheVariants.{Beside, Below}
use Rattle.isle_tidy_layout.specs.Entries.{Lexeme, opening, closing, at_sign, atom, Entry}

mutual
  pub data Flat : Type 0 where
    flat_atom : List ℕ → Flat
    flat_binding : List ℕ → Flat → Flat
    flat_row : Flats → Flat

  pub data Flats : Type 0 where
    flat_none : Flats
    flat_more : Flat → Flats → Flats

mutual
  pub data Print : Type 0 where
    whole : Flat → Print
    binding : List ℕ → Print → Print
    broken : Print → Prints → Print

  pub data Prints : Type 0 where
    none : Prints
    more : Print → Prints → Prints

abbrev pub entry : Gap → Lexeme → Entry
entry gap x = record { gap = gap; lexeme = x }

abbrev pub flat_first : Flat → Lexeme
flat_first (flat_atom text) = atom text
flat_first (flat_binding name f) = atom name
flat_first (flat_row fs) = opening

-- what is behind the first lexeme, before other entries
abbrev mutual
  pub flat_rest : Flat → List Entry → List Entry
  flat_rest (flat_atom text) rest = rest
  flat_rest (flat_binding name f) rest = entry (Beside 1) at_sign ∷ entry (Beside 1) (flat_first f) ∷ flat_rest f rest
  flat_rest (flat_row fs) rest = flat_items (Beside 0) fs (entry (Beside 0) closing ∷ rest)

  pub flat_items : Gap → Flats → List Entry → List Entry
  flat_items gap flat_none rest = rest
  flat_items gap (flat_more f fs) rest = entry gap (flat_first f) ∷ flat_rest f (flat_items (Beside 1) fs rest)

abbrev pub print_first : Print → Lexeme
print_first (whole f) = flat_first f
print_first (binding name p) = atom name
print_first (broken p ps) = opening

abbrev mutual
  pub print_rest : (level : ℕ) → Print → List Entry → List Entry
  print_rest level (whole f) rest = flat_rest f rest
  print_rest level (binding name p) rest = entry (Beside 1) at_sign ∷ entry (Beside 1) (print_first p) ∷ print_rest level p rest
  print_rest level (broken p ps) rest =
      entry (Beside 0) (print_first p) ∷ print_rest level p (print_lines level ps (entry (Below 0 (4 * level)) closing ∷ rest))

  pub print_lines : (level : ℕ) → Prints → List Entry → List Entry
  print_lines level none rest = rest
  print_lines level (more p ps) rest =
      entry (Below 0 (4 * (level + 1))) (print_first p) ∷ print_rest (level + 1) p (print_lines level ps rest)

-- prints apart from one another by an empty line
abbrev pub printed_after : List Print → List Entry
printed_after [] = []
printed_after (p ∷ ps) = entry (Below 1 0) (print_first p) ∷ print_rest 0 p (printed_after ps)

abbrev pub printed : List Print → List Entry
printed [] = []
printed (p ∷ ps) = entry (Below 0 0) (print_first p) ∷ print_rest 0 p (printed_after ps)

-- no binding
abbrev pub is_plain : Flat → Bool
is_plain (flat_atom text) = true
is_plain (flat_binding name f) = false
is_plain (flat_row fs) = true

abbrev pub is_plain_print : Print → Bool
is_plain_print (whole f) = is_plain f
is_plain_print (binding name p) = false
is_plain_print (broken p ps) = true

-- no broken list begins with a binding
abbrev mutual
  pub HasPlainHeads : Print → Type 0
  HasPlainHeads (whole f) = Unit {0}
  HasPlainHeads (binding name p) = HasPlainHeads p
  HasPlainHeads (broken p ps) = (is_plain_print p ≡ true) × HasPlainHeads p × HavePlainHeads ps

  pub HavePlainHeads : Prints → Type 0
  HavePlainHeads none = Unit {0}
  HavePlainHeads (more p ps) = HasPlainHeads p × HavePlainHeads ps

abbrev pub AllHavePlainHeads : List Print → Type 0
AllHavePlainHeads [] = Unit {0}
AllHavePlainHeads (p ∷ ps) = HasPlainHeads p × AllHavePlainHeads ps
