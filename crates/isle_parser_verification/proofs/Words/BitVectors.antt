-- The digits of bit vectors, as a test and as a statement.
use Rattle.std.proofs.Common.{◌≡◌, ℕ, ◌*◌, ◌^◌, ◌<◌, ltb, true, ◌&&◌, List, [], ◌∷◌, length, Option, Some, None, Result, Ok, Err, OkIff, refl, sym, ap, ◌∙◌, arith}
use Rattle.std.specs.Result.{result_ok}
use Rattle.std.specs.Char.{digit_value}
use Rattle.std.specs.Str.Parse.{AllDigits, IsNumeral, digits_value, without_leading_plus}
use Rattle.std.proofs.lemmas.Bool.{and_parts}
use Rattle.std.proofs.lemmas.Bool.Decides.{nat_tests}
use Rattle.isle_parser_verification.specs.SpecWords.{are_all_digits, bit_vector_of, is_numeral}
use Rattle.isle_parser_cursor.proofs.Readers.{chosen_some}
use Rattle.isle_parser_verification.proofs.Words.Texts.{some_is}

below : (a b : ℕ) → ltb a b ≡ true → a < b
below a b e = grind (arith, nat_tests)

is_below : (a b : ℕ) → a < b → ltb a b ≡ true
is_below a b e = grind (arith, nat_tests)

digits_are : (radix : ℕ) (ds : List ℕ) → are_all_digits radix ds ≡ true → AllDigits radix ds
digits_are radix [] e = tt
digits_are radix (d ∷ ds) e =
    let p = and_parts (ltb (digit_value d) radix) (are_all_digits radix ds) e in
    (below (digit_value d) radix p.0, digits_are radix ds p.1)

digits_pass : (radix : ℕ) (ds : List ℕ) → AllDigits radix ds → are_all_digits radix ds ≡ true
digits_pass radix [] h = refl
digits_pass radix (d ∷ ds) h = rw (is_below (digit_value d) radix h.0, digits_pass radix ds h.1) refl

numeral_is : (radix : ℕ) (ds : List ℕ) → is_numeral radix ds ≡ true → IsNumeral radix ds
numeral_is radix [] e = absurd cc
numeral_is radix (d ∷ ds) e = (omega arith, digits_are radix (d ∷ ds) e)

numeral_passes : (radix : ℕ) (ds : List ℕ) → IsNumeral radix ds → is_numeral radix ds ≡ true
numeral_passes radix [] h =
    let none : 0 < 0 = h.0 in absurd (omega (arith, none))
numeral_passes radix (d ∷ ds) h = digits_pass radix (d ∷ ds) h.1

-- a value and a width within their types
pub bit_vector_made : (radix bits : ℕ) (digits : List ℕ) → IsNumeral radix (without_leading_plus digits) → digits_value radix (without_leading_plus digits) < 2 ^ 128 → length digits * bits < 2 ^ 64
    → bit_vector_of radix bits digits ≡ Some (digits_value radix (without_leading_plus digits), length digits * bits)
unfolding bit_vector_of
bit_vector_made radix bits digits numeral small fits =
    rw (numeral_passes radix (without_leading_plus digits) numeral, is_below (digits_value radix (without_leading_plus digits)) (2 ^ 128) small, is_below (length digits * bits) (2 ^ 64) fits) refl

pub record IsMade (radix bits : ℕ) (digits : List ℕ) (v : ℕ × ℕ) : Type 0 where
  pub numeral : IsNumeral radix (without_leading_plus digits)
  pub value : digits_value radix (without_leading_plus digits) ≡ v.0
  pub small : digits_value radix (without_leading_plus digits) < 2 ^ 128
  pub bytes : length digits * bits ≡ v.1
  pub fits : length digits * bits < 2 ^ 64

pub bit_vector_is : (radix bits : ℕ) (digits : List ℕ) (v : ℕ × ℕ) → bit_vector_of radix bits digits ≡ Some v → IsMade radix bits digits v
unfolding bit_vector_of
bit_vector_is radix bits digits v e =
    let ds = without_leading_plus digits in
    let value = digits_value radix ds in
    let width = length digits * bits in
    let made = chosen_some (is_numeral radix ds && ltb value (2 ^ 128) && ltb width (2 ^ 64)) (value, width) v e in
    let p = and_parts (is_numeral radix ds && ltb value (2 ^ 128)) (ltb width (2 ^ 64)) made.0 in
    let q = and_parts (is_numeral radix ds) (ltb value (2 ^ 128)) p.0 in
    let is = some_is (value, width) v made.1 in
    record {
      numeral = numeral_is radix ds q.0;
      value = ap (λ (r : ℕ × ℕ). r.0) is;
      small = below value (2 ^ 128) q.1;
      bytes = ap (λ (r : ℕ × ℕ). r.1) is;
      fits = below width (2 ^ 64) p.1;
    }

none_made : (radix bits : ℕ) (digits : List ℕ) (o : Option (ℕ × ℕ)) → bit_vector_of radix bits digits ≡ o → (IsNumeral radix (without_leading_plus digits) × (digits_value radix (without_leading_plus digits) < 2 ^ 128) → ⊥) → o ≡ None
none_made radix bits digits None e h = refl
none_made radix bits digits (Some v) e h =
    let made = bit_vector_is radix bits digits v e in absurd (h (made.numeral, made.small))

-- ---- what `from_str_radix` gives

abbrev IsParsed : {E : Type 0} → ℕ → List ℕ → Result ℕ E → Type 0
IsParsed radix digits r = OkIff r (IsNumeral radix (without_leading_plus digits) × (digits_value radix (without_leading_plus digits) < 2 ^ 128)) (digits_value radix (without_leading_plus digits))

pub parsed : {E : Type 0} (r : Result ℕ E) (radix bits val width : ℕ) (digits : List ℕ) → IsParsed radix digits r → result_ok r ≡ Some val → length digits * bits < 2 ^ 64
    → length digits * bits ≡ width → Some (val, width) ≡ bit_vector_of radix bits digits
parsed (Ok x) radix bits val width digits h e fits bytes =
    let value = digits_value radix (without_leading_plus digits) in
    let is : val ≡ value = cc in
    sym (bit_vector_made radix bits digits h.0.0 h.0.1 fits ∙ ap (λ (n : ℕ). Some (value, n)) bytes ∙ ap (λ (n : ℕ). Some (n, width)) (sym is))
parsed (Err x) radix bits val width digits h e fits bytes = absurd cc

pub not_parsed : {E : Type 0} (r : Result ℕ E) (radix bits : ℕ) (digits : List ℕ) → IsParsed radix digits r → result_ok r ≡ None → None ≡ bit_vector_of radix bits digits
not_parsed (Ok x) radix bits digits h e = absurd cc
not_parsed (Err x) radix bits digits h e = sym (none_made radix bits digits (bit_vector_of radix bits digits) refl h)
