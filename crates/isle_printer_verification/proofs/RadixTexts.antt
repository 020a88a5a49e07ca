-- The digits of a number in a radix are those of its quotient and then the remainder.
use Rattle.std.proofs.Common.{◌≡◌, ◌==◌, ℕ, zero, suc, ◌/◌, ◌%◌, ◌<◌, ◌≤◌, codes, List, [], ◌∷◌, ◌++◌, map, false, if◌then◌else◌, sym, ap, ◌∙◌, append_assoc, arith}
use Rattle.std.proofs.lemmas.Bool.Decides.{nat_tests}
use Rattle.std.proofs.lemmas.Int.Digits.{digits_of_step}
use Rattle.std.proofs.lemmas.List.{map-append}
use Rattle.std.proofs.lemmas.Nat.{le-div, div_below}
use Rattle.std.proofs.Math.Nat.{mod-eq_of_lt}
use Rattle.std.specs.Char.{digit_char}
use Rattle.std.specs.Int.Digits.{digits_of}
use Rattle.isle_printer_verification.specs.SpecShapes.{radix_text}

not_zero : (n : ℕ) → 0 < n → (n == 0) ≡ false
not_zero n h = grind (arith, nat_tests)

positive : (radix n : ℕ) → 0 < n → radix_text radix n ≡ map digit_char (digits_of radix n)
positive radix n h = ap (λ is_zero. if is_zero then codes "0" else map digit_char (digits_of radix n)) (not_zero n h)

digits_map : (radix n : ℕ) → 2 ≤ radix → 0 < n → map digit_char (digits_of radix n) ≡ map digit_char (digits_of radix (n / radix)) ++ digit_char (n % radix) ∷ []
digits_map radix n two h =
    ap (map digit_char) (digits_of_step radix n two h)
    ∙ map-append digit_char (digits_of radix (n / radix)) (n % radix ∷ [])

-- a number of at least two digits: the digits of its quotient, and the remainder
pub radix_text-more : (radix n : ℕ) → 2 ≤ radix → radix ≤ n → radix_text radix n ≡ radix_text radix (n / radix) ++ digit_char (n % radix) ∷ []
radix_text-more radix n two h =
    let some : 0 < n / radix = le-div 1 n radix (omega arith) (omega arith) in
    positive radix n (omega arith)
    ∙ digits_map radix n two (omega arith)
    ∙ ap (λ digits. digits ++ digit_char (n % radix) ∷ []) (sym (positive radix (n / radix) some))

-- a number below the radix: one digit, whether it is zero or not

one_digit : (radix n : ℕ) → 2 ≤ radix → 0 < n → n / radix ≡ 0 → radix_text radix n ≡ digit_char (n % radix) ∷ []
one_digit radix n two h none =
    positive radix n h
    ∙ digits_map radix n two h
    ∙ ap (λ quotient. map digit_char (digits_of radix quotient) ++ digit_char (n % radix) ∷ []) none

pub radix_text-one : (radix n : ℕ) → 2 ≤ radix → n < radix → radix_text radix n ≡ digit_char (n % radix) ∷ []
radix_text-one radix zero two h = ap (λ d. digit_char d ∷ []) (sym (mod-eq_of_lt h))
radix_text-one radix (suc m) two h =
    let none : suc m / radix < 1 = div_below (suc m) radix 1 (omega arith) (omega arith) in
    one_digit radix (suc m) two (omega arith) (omega arith)

-- one more digit after what is written
pub digit_behind : (written old digits : List ℕ) (d : ℕ) → written ≡ old ++ digits → written ++ d ∷ [] ≡ old ++ (digits ++ d ∷ [])
digit_behind written old digits d is = ap (λ text. text ++ d ∷ []) is ∙ append_assoc old digits (d ∷ [])
