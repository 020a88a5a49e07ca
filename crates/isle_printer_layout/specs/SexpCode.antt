-- S-expressions as lists of marks, from which they can be recovered: proofs use them to tell two
-- apart.
use Rattle.std.specs.Prelude.{◌≡◌, ℕ, zero, suc, List, [], ◌∷◌, refl}
use Rattle.std.proofs.Common.{ap, ◌∙◌}
use Rattle.std.specs.Coded.{Coded, code_by, coded×, coded_list, coded_ℕ}
use Rattle.isle_printer_layout.specs.Sexp.{Sexp, Sexps, atom, binding, list, none, more}

-- a text, a name, the start of a list or its end
abbrev pub Mark : Type 0
Mark = ℕ × List ℕ

abbrev mutual
  pub marks : Sexp → List Mark → List Mark
  marks (atom text) rest = (0, text) ∷ rest
  marks (binding name s) rest = (1, name) ∷ marks s rest
  marks (list items) rest = (2, []) ∷ item_marks items ((3, []) ∷ rest)

  pub item_marks : Sexps → List Mark → List Mark
  item_marks none rest = rest
  item_marks (more s ss) rest = marks s (item_marks ss rest)

-- the rest to the right in the same list, and in the lists around it
abbrev pub Right : Type 0
Right = Sexps × List Sexps

abbrev pub bind_first : List ℕ → Sexps → Sexps
bind_first name none = none
bind_first name (more s ss) = more (binding name s) ss

abbrev pub close_list : Sexps → List Sexps → Right
close_list items [] = (more (list items) none, [])
close_list items (outer ∷ outers) = (more (list items) outer, outers)

abbrev pub put_mark : Mark → Right → Right
put_mark (zero, text) right = (more (atom text) right.0, right.1)
put_mark (suc zero, name) right = (bind_first name right.0, right.1)
put_mark (suc (suc zero), _) right = close_list right.0 right.1
put_mark (suc (suc (suc _)), _) right = (none, right.0 ∷ right.1)

abbrev pub read_marks : List Mark → Right
read_marks [] = (none, [])
read_marks (p ∷ ps) = put_mark p (read_marks ps)

abbrev pub first_of : Sexps → Sexp
first_of none = list none
first_of (more s ss) = s

abbrev pub join_sexps : Sexps → Sexps → Sexps
join_sexps none after = after
join_sexps (more s ss) after = more s (join_sexps ss after)

join_none : (ss : Sexps) → join_sexps ss none ≡ ss
join_none none = refl
join_none (more s ss) = ap (more s) (join_none ss)

mutual
  read_back : (s : Sexp) (rest : List Mark) → read_marks (marks s rest) ≡ (more s (read_marks rest).0, (read_marks rest).1)
  read_back (atom text) rest = refl
  read_back (binding name s) rest = ap (put_mark (1, name)) (read_back s rest)
  read_back (list items) rest =
      ap (put_mark (2, [])) (items_back items ((3, []) ∷ rest))
      ∙ ap (λ ss. (more (list ss) (read_marks rest).0, (read_marks rest).1)) (join_none items)

  items_back : (ss : Sexps) (rest : List Mark) → read_marks (item_marks ss rest) ≡ (join_sexps ss (read_marks rest).0, (read_marks rest).1)
  items_back none rest = refl
  items_back (more s ss) rest =
      read_back s (item_marks ss rest) ∙ ap (λ (r : Right). (more s r.0, r.1)) (items_back ss rest)

abbrev pub sexp_from : List Mark → Sexp
sexp_from ps = first_of (read_marks ps).0

pub from_marks : (s : Sexp) → sexp_from (marks s []) ≡ s
from_marks s = ap (λ (r : Right). first_of r.0) (read_back s [])

abbrev pub sexp_code : Coded Sexp
sexp_code = code_by (List Mark) (coded_list (coded× coded_ℕ (coded_list coded_ℕ))) (λ s. marks s []) sexp_from from_marks
