-- Reading the digits of a literal from left to right. What has been read, weighed with the digits
-- that are left, is the number that all of them write.
use Rattle.std.proofs.Common.{◌≡◌, ℕ, zero, suc, ◌+◌, ◌*◌, ◌^◌, ◌<◌, ◌≤◌, List, [], ◌∷◌, Bool, true, false, length, drop, get_or, refl, sym, ap, ◌∙◌, ◌&&◌, eqb, ltb, arith}
use Rattle.std.specs.Char.{digit_value}
use Rattle.std.specs.List.{list_all}
use Rattle.std.proofs.Math.Nat.{pow-suc, pow-zero, mul-le-mul_left, mul-lt-mul_of_pos_right}
use Rattle.std.proofs.lemmas.Bool.{and_left, and_right, le-ltb, lt-ltb}
use Rattle.std.proofs.lemmas.List.{drop_more, drop_all}
use Rattle.isle_base.specs.Literals.{digits_of, number_of, are_digits}

digits_underscore : (b : ℕ) (rest : List ℕ) → eqb b 95 ≡ true → digits_of (b ∷ rest) ≡ digits_of rest
digits_underscore b rest h = rw h refl

digits_digit : (b : ℕ) (rest : List ℕ) → eqb b 95 ≡ false → digits_of (b ∷ rest) ≡ digit_value b ∷ digits_of rest
digits_digit b rest h = rw h refl

abbrev weighed : ℕ → ℕ → List ℕ → ℕ
weighed radix n ds = n * radix ^ length ds + number_of radix ds

weighed-cons : (radix n d : ℕ) (ds : List ℕ) → weighed radix n (d ∷ ds) ≡ weighed radix (n * radix + d) ds
weighed-cons radix n d ds = rw (pow-suc radix (length ds)) (omega arith)

-- where the reading of a run of digits stands
pub record Reading (radix : ℕ) (run : List ℕ) (at number : ℕ) (is_empty : Bool) : Type 0 where
  pub value : weighed radix number (digits_of (drop at run)) ≡ number_of radix (digits_of run)
  pub digits : list_all (λ d. ltb d radix) (digits_of (drop at run)) ≡ list_all (λ d. ltb d radix) (digits_of run)
  pub none : is_empty ≡ true → digits_of (drop at run) ≡ digits_of run
  pub some : is_empty ≡ false → 0 < length (digits_of run)

pub reading_start : (radix : ℕ) (run : List ℕ) → Reading radix run 0 0 true
reading_start radix run = record { value = omega arith; digits = refl; none = λ _. refl; some = λ h. cc }

step_byte : (run : List ℕ) (at : ℕ) → at < length run → drop at run ≡ get_or run at 0 ∷ drop (at + 1) run
step_byte run at h = drop_more run at 0 h

pub reading_underscore : (radix : ℕ) (run : List ℕ) (at number : ℕ) (is_empty : Bool) → Reading radix run at number is_empty → at < length run → eqb (get_or run at 0) 95 ≡ true → Reading radix run (at + 1) number is_empty
reading_underscore radix run at number is_empty r h is =
    let same : digits_of (drop at run) ≡ digits_of (drop (at + 1) run) = ap digits_of (step_byte run at h) ∙ digits_underscore (get_or run at 0) (drop (at + 1) run) is in
    record {
      value = sym (ap (weighed radix number) same) ∙ r.value;
      digits = sym (ap (list_all (λ d. ltb d radix)) same) ∙ r.digits;
      none = λ e. sym same ∙ r.none e;
      some = r.some;
    }

split : (run : List ℕ) (at : ℕ) → at < length run → eqb (get_or run at 0) 95 ≡ false → digits_of (drop at run) ≡ digit_value (get_or run at 0) ∷ digits_of (drop (at + 1) run)
split run at h isnt = ap digits_of (step_byte run at h) ∙ digits_digit (get_or run at 0) (drop (at + 1) run) isnt

-- if a digit is left, there is one
left_some : (radix : ℕ) (run : List ℕ) (at number : ℕ) (is_empty : Bool) (d : ℕ) (ds : List ℕ) → Reading radix run at number is_empty → digits_of (drop at run) ≡ d ∷ ds → 0 < length (digits_of run)
left_some radix run at number true d ds r e = omega (arith, ap length (r.none refl), ap length e)
left_some radix run at number false d ds r e = r.some refl

pub reading_digit : (radix : ℕ) (run : List ℕ) (at number : ℕ) (is_empty : Bool) → Reading radix run at number is_empty → at < length run → eqb (get_or run at 0) 95 ≡ false → digit_value (get_or run at 0) < radix → Reading radix run (at + 1) (number * radix + digit_value (get_or run at 0)) false
reading_digit radix run at number is_empty r h isnt small =
    let e = split run at h isnt in
    let here : ltb (digit_value (get_or run at 0)) radix ≡ true = lt-ltb (digit_value (get_or run at 0)) radix small in
    record {
      value = sym (ap (weighed radix number) e ∙ weighed-cons radix number (digit_value (get_or run at 0)) (digits_of (drop (at + 1) run))) ∙ r.value;
      digits = sym (ap (list_all (λ x. ltb x radix)) e ∙ ap (λ b. b && list_all (λ x. ltb x radix) (digits_of (drop (at + 1) run))) here) ∙ r.digits;
      none = λ f. cc;
      some = λ _. left_some radix run at number is_empty (digit_value (get_or run at 0)) (digits_of (drop (at + 1) run)) r e;
    }

are_digits_some : (radix : ℕ) (ds : List ℕ) → 0 < length ds → are_digits radix ds ≡ list_all (λ d. ltb d radix) ds
are_digits_some radix [] h = absurd (omega arith)
are_digits_some radix (d ∷ ds) h = refl

pub reading_end : (radix : ℕ) (run : List ℕ) (at number : ℕ) → Reading radix run at number false → length run ≤ at → (are_digits radix (digits_of run) ≡ true) × (number_of radix (digits_of run) ≡ number)
reading_end radix run at number r h =
    let nothing : digits_of (drop at run) ≡ [] = ap digits_of (drop_all at run h) in
    let value = sym (ap (weighed radix number) nothing) ∙ r.value in
    let digits = sym (ap (list_all (λ d. ltb d radix)) nothing) ∙ r.digits in
    let last : weighed radix number [] ≡ number = rw (pow-zero radix) (omega arith) in
    (are_digits_some radix (digits_of run) (r.some refl) ∙ sym digits, sym value ∙ last)

pub reading_empty : (radix : ℕ) (run : List ℕ) (at number : ℕ) → Reading radix run at number true → length run ≤ at → (are_digits radix (digits_of run) && ltb (number_of radix (digits_of run)) (2 ^ 128)) ≡ false
reading_empty radix run at number r h =
    let nothing : digits_of run ≡ [] = sym (r.none refl) ∙ ap digits_of (drop_all at run h) in
    ap (λ ds. are_digits radix ds && ltb (number_of radix ds) (2 ^ 128)) nothing

pub reading_wrong : (radix : ℕ) (run : List ℕ) (at number : ℕ) (is_empty : Bool) → Reading radix run at number is_empty → at < length run → eqb (get_or run at 0) 95 ≡ false → (digit_value (get_or run at 0) < radix → ⊥) → (are_digits radix (digits_of run) && ltb (number_of radix (digits_of run)) (2 ^ 128)) ≡ false
reading_wrong radix run at number is_empty r h isnt large =
    let e = split run at h isnt in
    let there = left_some radix run at number is_empty (digit_value (get_or run at 0)) (digits_of (drop (at + 1) run)) r e in
    let here : ltb (digit_value (get_or run at 0)) radix ≡ false = le-ltb (digit_value (get_or run at 0)) radix (omega arith) in
    let digits : list_all (λ x. ltb x radix) (digits_of run) ≡ false = sym r.digits ∙ ap (list_all (λ x. ltb x radix)) e ∙ ap (λ b. b && list_all (λ x. ltb x radix) (digits_of (drop (at + 1) run))) here in
    and_left (are_digits radix (digits_of run)) (ltb (number_of radix (digits_of run)) (2 ^ 128)) (are_digits_some radix (digits_of run) there ∙ digits)

pow_positive : (r k : ℕ) → 0 < r → 0 < r ^ k
pow_positive r zero h = rw pow-zero (omega arith)
pow_positive r (suc k) h =
    let below = pow_positive r k h in
    rw pow-suc (omega (arith, mul-lt-mul_of_pos_right {m = 0} {n = r ^ k} {k = r} below h))

-- what is read already is at most all
weighed-le : (radix n : ℕ) (ds : List ℕ) → 0 < radix → n ≤ weighed radix n ds
weighed-le radix n ds h =
    let big = pow_positive radix (length ds) h in
    omega (arith, mul-le-mul_left n big)

pub reading_over : (radix : ℕ) (run : List ℕ) (at number : ℕ) (is_empty : Bool) → Reading radix run at number is_empty → at < length run → eqb (get_or run at 0) 95 ≡ false → 0 < radix → 2 ^ 128 ≤ number * radix + digit_value (get_or run at 0) → (are_digits radix (digits_of run) && ltb (number_of radix (digits_of run)) (2 ^ 128)) ≡ false
reading_over radix run at number is_empty r h isnt positive over =
    let e = split run at h isnt in
    let whole : weighed radix (number * radix + digit_value (get_or run at 0)) (digits_of (drop (at + 1) run)) ≡ number_of radix (digits_of run) =
    sym (ap (weighed radix number) e ∙ weighed-cons radix number (digit_value (get_or run at 0)) (digits_of (drop (at + 1) run))) ∙ r.value in
    let large : 2 ^ 128 ≤ number_of radix (digits_of run) = omega (arith, whole, weighed-le radix (number * radix + digit_value (get_or run at 0)) (digits_of (drop (at + 1) run)) positive) in
    and_right (are_digits radix (digits_of run)) (ltb (number_of radix (digits_of run)) (2 ^ 128)) (le-ltb (number_of radix (digits_of run)) (2 ^ 128) large)
