-- The text of a writable bit vector is one symbol, and a bit vector of this value and width.
use Rattle.std.proofs.Common.{◌≡◌, ℕ, ◌+◌, ◌-◌, ◌*◌, ◌/◌, ◌%◌, ◌^◌, ◌<◌, ◌≤◌, ◌==◌, List, [], ◌∷◌, ◌++◌, length, map, drop, zero, suc, replicate, Bool, true, false, cond, codes, inl, inr, refl, sym, ap, ◌∙◌, subst, arith}
use Rattle.std.proofs.lemmas.Bool.{and_from}
use Rattle.std.proofs.lemmas.Bool.Decides.{nat_tests}
use Rattle.std.proofs.lemmas.Int.Digits.{digits_of_step, length-digits_of-le, all_below_base_digits_of, number_digits_of}
use Rattle.std.proofs.lemmas.List.{length-append, length-map, length-replicate}
use Rattle.std.proofs.lemmas.Nat.{pow-add, mul-pow}
use Rattle.std.proofs.lemmas.Str.{digit_value-digit_char}
use Rattle.std.specs.Char.{digit_char, digit_value}
use Rattle.std.specs.Int.Digits.{digits_of, number_from_digits_after, AllBelowBase}
use Rattle.std.specs.List.{list_all}
use Rattle.std.specs.Str.Parse.{AllDigits, IsNumeral, digits_value, digits_value_after, without_leading_plus}
use Rattle.isle_base.specs.Literals.{begins_literal}
use Rattle.isle_base.specs.Spellings.{in_symbol, begins_symbol}
use Rattle.isle_base.specs.Skips.{is_blank}
use Rattle.isle_base.specs.Token.{symbol}
use Rattle.isle_ast_verification.specs.BitVectors.{IsBitVectorIn, IsBitVector}
use Rattle.isle_ast_verification.specs.Writable.{IsWritableBitVector}
use Rattle.isle_printer_layout.specs.ReadBack.{ReadsAs}
use Rattle.isle_printer_verification.specs.SpecShapes.{radix_text, zero_padded, bit_vector_text}
use Rattle.isle_printer_layout.proofs.ReadBackLaw.{ReadsAs-symbol}

-- a digit below 16, as a byte
digit_in_symbol : (d : ℕ) → d < 16 → in_symbol (digit_char d) ≡ true
unfolding in_symbol is_blank
digit_in_symbol d h = grind (arith, nat_tests)

digit_is_no_plus : (d : ℕ) → d < 16 → (digit_char d == 43) ≡ false
digit_is_no_plus d h = grind (arith, nat_tests)

-- texts that are made of digits of a radix

digits-AllDigits : (radix : ℕ) (ds : List ℕ) → radix ≤ 16 → AllBelowBase radix ds → AllDigits radix (map digit_char ds)
digits-AllDigits radix [] fits below = tt
digits-AllDigits radix (d ∷ ds) fits below =
    let small : d < 36 = omega (arith, below.0) in
    let value : digit_value (digit_char d) < radix = subst (λ v. v < radix) (sym (digit_value-digit_char d small)) below.0 in
    (value, digits-AllDigits radix ds fits below.1)

digits-in_symbol : (radix : ℕ) (ds : List ℕ) → radix ≤ 16 → AllBelowBase radix ds → list_all in_symbol (map digit_char ds) ≡ true
digits-in_symbol radix [] fits below = refl
digits-in_symbol radix (d ∷ ds) fits below =
    let small : d < 16 = omega (arith, below.0) in
    and_from _ _ (digit_in_symbol d small) (digits-in_symbol radix ds fits below.1)

digits-value : (radix n : ℕ) (ds : List ℕ) → radix ≤ 16 → AllBelowBase radix ds → digits_value_after radix n (map digit_char ds) ≡ number_from_digits_after radix n ds
digits-value radix n [] fits below = refl
digits-value radix n (d ∷ ds) fits below =
    let small : d < 36 = omega (arith, below.0) in
    ap (λ v. digits_value_after radix (n * radix + v) (map digit_char ds)) (digit_value-digit_char d small)
    ∙ digits-value radix (n * radix + d) ds fits below.1

digits-plain : (radix : ℕ) (ds : List ℕ) → radix ≤ 16 → 0 < length ds → AllBelowBase radix ds → without_leading_plus (map digit_char ds) ≡ map digit_char ds
digits-plain radix [] fits some below = absurd (omega (arith, some))
digits-plain radix (d ∷ ds) fits some below =
    let small : d < 16 = omega (arith, below.0) in
    ap (λ t. drop (cond t 1 0) (map digit_char (d ∷ ds))) (digit_is_no_plus d small)

-- zeros before digits

zeros-below : (radix k : ℕ) (ds : List ℕ) → 0 < radix → AllBelowBase radix ds → AllBelowBase radix (replicate k 0 ++ ds)
zeros-below radix zero ds some below = below
zeros-below radix (suc k) ds some below = (some, zeros-below radix k ds some below)

zeros-number : (radix k : ℕ) (ds : List ℕ) → number_from_digits_after radix 0 (replicate k 0 ++ ds) ≡ number_from_digits_after radix 0 ds
zeros-number radix zero ds = refl
zeros-number radix (suc k) ds =
    let none : 0 * radix + 0 ≡ 0 = omega arith in
    ap (λ n. number_from_digits_after radix n (replicate k 0 ++ ds)) none ∙ zeros-number radix k ds

zeros-text : (k : ℕ) (ds : List ℕ) → map digit_char (replicate k 0 ++ ds) ≡ replicate k 48 ++ map digit_char ds
zeros-text zero ds = refl
zeros-text (suc k) ds = ap (λ text. 48 ∷ text) (zeros-text k ds)

-- the digits of a number, of which zero has one
abbrev number_digits : ℕ → ℕ → List ℕ
number_digits radix n = cond (n == 0) (0 ∷ []) (digits_of radix n)

-- what is known of the digits of a number
record AreDigitsOf (radix n : ℕ) (ds : List ℕ) : Type 0 where
  some : 0 < length ds
  below : AllBelowBase radix ds
  number : number_from_digits_after radix 0 ds ≡ n

number_digits-are : (radix n : ℕ) (is_zero : Bool) → 2 ≤ radix → (n == 0) ≡ is_zero → AreDigitsOf radix n (cond is_zero (0 ∷ []) (digits_of radix n))
number_digits-are radix n true two e =
    let zero_is : n ≡ 0 = grind (arith, nat_tests) in
    let positive : 0 < radix = omega arith in
    let number : 0 * radix + 0 ≡ n = omega (arith, zero_is) in
    record { some = omega arith; below = (positive, tt); number = number }
number_digits-are radix n false two e =
    let positive : 0 < n = grind (arith, nat_tests) in
    let step = ap length (digits_of_step radix n two positive) ∙ length-append (digits_of radix (n / radix)) (n % radix ∷ []) in
    record {
      some = omega (arith, step);
      below = all_below_base_digits_of radix n two;
      number = number_digits_of radix n two;
    }

number_digits-short : (radix n k : ℕ) (is_zero : Bool) → 2 ≤ radix → 1 ≤ k → n < radix ^ k → length (cond is_zero (0 ∷ []) (digits_of radix n)) ≤ k
number_digits-short radix n k true two some within = some
number_digits-short radix n k false two some within = length-digits_of-le radix k n two within

radix_text-digits : (radix n : ℕ) (is_zero : Bool) → cond is_zero (codes "0") (map digit_char (digits_of radix n)) ≡ map digit_char (cond is_zero (0 ∷ []) (digits_of radix n))
radix_text-digits radix n true = refl
radix_text-digits radix n false = refl

-- so many digits that make the number
record ArePadded (radix n k : ℕ) (text : List ℕ) : Type 0 where
  numeral : IsNumeral radix (without_leading_plus text)
  value : digits_value radix (without_leading_plus text) ≡ n
  size : length text ≡ k
  each : list_all in_symbol text ≡ true

padded-digits : (radix n k : ℕ) (ds : List ℕ) → 2 ≤ radix → radix ≤ 16 → length ds ≤ k → AreDigitsOf radix n ds → ArePadded radix n k (zero_padded k (map digit_char ds))
padded-digits radix n k ds two fits short are =
    let positive : 0 < radix = omega arith in
    let zeros = k - length ds in
    let all : List ℕ = replicate zeros 0 ++ ds in
    let size : length all ≡ k = length-append (replicate zeros 0) ds ∙ ap (λ m. m + length ds) (length-replicate {A = ℕ} zeros 0) ∙ omega (arith, short) in
    let below = zeros-below radix zeros ds positive are.below in
    let some : 0 < length all = omega (arith, size, short, are.some) in
    let plain = digits-plain radix all fits some below in
    let long : 0 < length (map digit_char all) = omega (arith, length-map all digit_char, some) in
    let text : map digit_char all ≡ zero_padded k (map digit_char ds) =
    zeros-text zeros ds ∙ ap (λ m. replicate (k - m) 48 ++ map digit_char ds) (sym (length-map ds digit_char)) in
    subst (ArePadded radix n k) text
    (record {
      numeral = subst (IsNumeral radix) (sym plain) (long, digits-AllDigits radix all fits below);
      value = ap (digits_value radix) plain ∙ digits-value radix 0 all fits below ∙ zeros-number radix zeros ds ∙ are.number;
      size = length-map all digit_char ∙ size;
      each = digits-in_symbol radix all fits below;
    })

padded : (radix n k : ℕ) → 2 ≤ radix → radix ≤ 16 → 1 ≤ k → n < radix ^ k → ArePadded radix n k (zero_padded k (radix_text radix n))
padded radix n k two fits some within =
    subst (λ text. ArePadded radix n k (zero_padded k text)) (sym (radix_text-digits radix n (n == 0)))
    (padded-digits radix n k (number_digits radix n) two fits
    (number_digits-short radix n k (n == 0) two some within)
    (number_digits-are radix n (n == 0) two refl))

-- a bit vector by its digits
padded-IsBitVectorIn : (radix bits n k width : ℕ) (mark text : List ℕ) → k * bits ≡ width → n < 2 ^ 128 → width < 2 ^ 64 → ArePadded radix n k text → IsBitVectorIn radix bits mark (mark ++ text) n width
padded-IsBitVectorIn radix bits n k width mark text bytes small fits are = record {
  digits = text;
  marked = refl;
  numeral = are.numeral;
  value = are.value;
  small = small;
  bytes = ap (λ m. m * bits) are.size ∙ bytes;
  fits = fits;
}

four_power : (n : ℕ) → 4 ^ n ≡ 2 ^ (n + n)
four_power n = mul-pow 2 2 n ∙ sym (pow-add 2 n n)

hexadecimal_power : (n : ℕ) → 16 ^ n ≡ 2 ^ (n * 4)
hexadecimal_power n =
    let e : n + n + (n + n) ≡ n * 4 = omega arith in
    mul-pow 4 4 n ∙ (λ i. four_power n i * four_power n i) ∙ sym (pow-add 2 (n + n) (n + n)) ∙ ap (λ k. 2 ^ k) e

-- `#b` or `#x` and digits read as one symbol

marked-ReadsAs : (letter : ℕ) (digits : List ℕ) → in_symbol letter ≡ true → list_all in_symbol digits ≡ true → ReadsAs (35 ∷ letter ∷ digits) (symbol (35 ∷ letter ∷ digits))
unfolding in_symbol begins_symbol is_blank begins_literal
marked-ReadsAs letter digits is each = ReadsAs-symbol (35 ∷ letter ∷ digits) refl (and_from _ _ is each)

letter_b : in_symbol 98 ≡ true
unfolding in_symbol is_blank
letter_b = refl

letter_x : in_symbol 120 ≡ true
unfolding in_symbol is_blank
letter_x = refl

-- A bit vector's text, as it reads and as what it is of.
pub record IsBitVectorAtom (text : List ℕ) (val width : ℕ) : Type 0 where
  pub reads : ReadsAs text (symbol text)
  pub means : IsBitVector text val width

atom-of : (val width : ℕ) (whole : Bool) → (width % 4 == 0) ≡ whole → IsWritableBitVector val width
    → IsBitVectorAtom (cond whole (codes "#x" ++ zero_padded (width / 4) (radix_text 16 val)) (codes "#b" ++ zero_padded width (radix_text 2 val))) val width
atom-of val width true e is =
    let some = is.some in
    let quarter = width / 4 in
    let none : width % 4 ≡ 0 = grind (arith, nat_tests) in
    let bytes : quarter * 4 ≡ width = omega arith in
    let at_least : 1 ≤ quarter = omega arith in
    let within : val < 16 ^ quarter = subst (λ n. val < n) (sym (hexadecimal_power quarter ∙ ap (λ k. 2 ^ k) bytes)) is.within in
    let are = padded 16 val quarter (omega arith) (omega arith) at_least within in
    record {
      reads = marked-ReadsAs 120 _ letter_x are.each;
      means = inr (padded-IsBitVectorIn 16 4 val quarter width (codes "#x") _ bytes is.value is.bits are);
    }
atom-of val width false e is =
    let bytes : width * 1 ≡ width = omega arith in
    let are = padded 2 val width (omega arith) (omega arith) is.some is.within in
    record {
      reads = marked-ReadsAs 98 _ letter_b are.each;
      means = inl (padded-IsBitVectorIn 2 1 val width width (codes "#b") _ bytes is.value is.bits are);
    }

pub bit_vector_text-atom : (val width : ℕ) → IsWritableBitVector val width → IsBitVectorAtom (bit_vector_text val width) val width
bit_vector_text-atom val width is = atom-of val width (width % 4 == 0) refl is
