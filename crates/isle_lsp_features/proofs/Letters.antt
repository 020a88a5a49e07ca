-- Letters that stand in a name one after the other, a byte of the name at a time.
use Rattle.std.proofs.Common.{◌≡◌, ℕ, List, [], ◌∷◌, ◌+◌, ◌<◌, ◌≤◌, true, ◌==◌, length, get_or, arith, drop, refl, sym, ◌∙◌, ap, inl, inr}
use Rattle.std.proofs.lemmas.Bool.{cases_Bool, ne_eqb}
use Rattle.std.proofs.lemmas.List.{drop_all, drop_more}
use Rattle.std.specs.Char.{eq_ignore_ascii_case}
use Rattle.isle_lsp_features.specs.Defined.{has_letters, letters_left}

none_left : (bs : List ℕ) → has_letters [] bs ≡ true
none_left [] = refl
none_left (b ∷ bs) = refl

left : (ls : List ℕ) (b : ℕ) (bs : List ℕ) → has_letters (letters_left ls b) bs ≡ has_letters ls (b ∷ bs)
left [] b bs = none_left bs
left (l ∷ ls) b bs =
    elim (cases_Bool (eq_ignore_ascii_case l b)) [
      | inl e ↦ rw e refl
      | inr e ↦ rw e refl
    ]

pub step : (ls name : List ℕ) (i : ℕ) → i < length name → has_letters (letters_left ls (get_or name i 0)) (drop (i + 1) name) ≡ has_letters ls (drop i name)
step ls name i h = left ls (get_or name i 0) (drop (i + 1) name) ∙ ap (has_letters ls) (sym (drop_more name i 0 h))

-- at the end of the name all letters are found, or some are to come
at_end : (ls : List ℕ) → has_letters ls [] ≡ (length ls == 0)
at_end [] = refl
at_end (l ∷ ls) = sym (ne_eqb (length (l ∷ ls)) 0 (λ e. omega (arith, e)))

pub ended : (ls name : List ℕ) (i : ℕ) → length name ≤ i → has_letters ls (drop i name) ≡ (length ls == 0)
ended ls name i h = ap (has_letters ls) (drop_all i name h) ∙ at_end ls
