-- What is trimmed, from the end.
use Rattle.std.proofs.Common.{◌≡◌, ◌-◌, ◌<◌, ◌≤◌, ℕ, zero, suc, List, [], ◌∷◌, ◌++◌, Bool, true, false, ◌||◌, take, get_or, length, refl, sym, ap, ◌∙◌, eqb, arith, IsCharBoundary, ⊎_elim}
use Rattle.std.proofs.lemmas.Str.{IsCharBoundary-before_ascii}
use Rattle.std.proofs.lemmas.Bool.{cond-true, cond-false, eqb-true, or_cases}
use Rattle.isle_tidy_layout.specs.Placing.{before_trimmed, trimmed}

abbrev is_trimmed : ℕ → Bool
is_trimmed b = eqb b 32 || eqb b 9

blank_last : (xs : List ℕ) (b : ℕ) → is_trimmed b ≡ true → trimmed (xs ++ (b ∷ [])) ≡ trimmed xs
blank_last [] b is = cond-true (is_trimmed b) [] (b ∷ []) is
blank_last (x ∷ xs) b is = ap (before_trimmed x) (blank_last xs b is)

before_more : (x : ℕ) (xs : List ℕ) (b : ℕ) → before_trimmed x (xs ++ (b ∷ [])) ≡ x ∷ (xs ++ (b ∷ []))
before_more x [] b = refl
before_more x (y ∷ xs) b = refl

other_last : (xs : List ℕ) (b : ℕ) → is_trimmed b ≡ false → trimmed (xs ++ (b ∷ [])) ≡ xs ++ (b ∷ [])
other_last [] b is = cond-false (is_trimmed b) [] (b ∷ []) is
other_last (x ∷ xs) b is = ap (before_trimmed x) (other_last xs b is) ∙ before_more x xs b

take_next : (bytes : List ℕ) (n : ℕ) → n < length bytes → take (suc n) bytes ≡ take n bytes ++ (get_or bytes n 0 ∷ [])
take_next [] n h = absurd (omega arith)
take_next (b ∷ bytes) zero h = refl
take_next (b ∷ bytes) (suc n) h = ap (λ xs. b ∷ xs) (take_next bytes n (omega arith))

take_end : (bytes : List ℕ) (end : ℕ) → 0 < end → end ≤ length bytes → take end bytes ≡ take (end - 1) bytes ++ (get_or bytes (end - 1) 0 ∷ [])
take_end bytes end some within =
    let count : suc (end - 1) ≡ end = omega arith in
    sym (ap (λ n. take n bytes) count) ∙ take_next bytes (end - 1) (omega arith)

pub trimmed_less : (bytes : List ℕ) (end : ℕ) → 0 < end → end ≤ length bytes → is_trimmed (get_or bytes (end - 1) 0) ≡ true → trimmed (take end bytes) ≡ trimmed (take (end - 1) bytes)
trimmed_less bytes end some within is = ap trimmed (take_end bytes end some within) ∙ blank_last (take (end - 1) bytes) (get_or bytes (end - 1) 0) is

pub trimmed_here : (bytes : List ℕ) (end : ℕ) → 0 < end → end ≤ length bytes → is_trimmed (get_or bytes (end - 1) 0) ≡ false → trimmed (take end bytes) ≡ take end bytes
trimmed_here bytes end some within is =
    ap trimmed (take_end bytes end some within) ∙ other_last (take (end - 1) bytes) (get_or bytes (end - 1) 0) is ∙ sym (take_end bytes end some within)

small_blank : (b : ℕ) → is_trimmed b ≡ true → b < 128
small_blank b is =
    ⊎_elim (λ e. let q : b ≡ 32 = eqb-true b 32 e in omega arith) (λ e. let q : b ≡ 9 = eqb-true b 9 e in omega arith)
    (or_cases (eqb b 32) (eqb b 9) is)

pub boundary_less : (bytes : List ℕ) (end : ℕ) → 0 < end → end ≤ length bytes → is_trimmed (get_or bytes (end - 1) 0) ≡ true → IsCharBoundary bytes (end - 1)
boundary_less bytes end some within is = IsCharBoundary-before_ascii bytes (end - 1) (omega arith) (small_blank (get_or bytes (end - 1) 0) is)
