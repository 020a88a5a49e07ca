-- An integer in decimal reads back as that integer.
use Rattle.std.proofs.Common.{◌≡◌, ◌==◌, ℕ, ℤ, pos, negsuc, ◌-ℤ◌, codes, suc, ◌+◌, ◌*◌, ◌/◌, ◌%◌, ◌^◌, ◌<◌, ◌≤◌, List, [], ◌∷◌, ◌++◌, length, map, drop, Bool, true, false, not, cond, ltb, Option}
use Rattle.std.proofs.Common.{Some, None, is_some, unwrap_or, refl, sym, ap, ◌∙◌, subst, arith}
use Rattle.std.proofs.Math.Nat.{pow-suc, pow-zero}
use Rattle.std.proofs.lemmas.Bool.{false≢true, and_parts, and_from}
use Rattle.std.proofs.lemmas.Bool.Decides.{nat_tests}
use Rattle.std.proofs.lemmas.Fmt.{decimal_by_steps_wide}
use Rattle.std.proofs.lemmas.Int.{ints}
use Rattle.std.proofs.lemmas.List.{map-append, length-append}
use Rattle.std.proofs.lemmas.List.Folds.{list_all-append}
use Rattle.std.specs.Char.{digit_value, is_ascii_digit}
use Rattle.std.specs.Fmt.{decimal, signed_decimal}
use Rattle.std.specs.List.{list_all, filter}
use Rattle.isle_base.specs.Literals.{begins_literal, in_literal, has_minus, behind_minus, radix_of, prefix_radix, radix_at, behind_prefix, digits_of, number_of, are_digits, signed, value_of, Literal}
use Rattle.isle_base.specs.Spellings.{in_symbol}
use Rattle.isle_base.specs.Skips.{begins_with, is_blank, Longest}
use Rattle.isle_base.specs.Token.{integer}
use Rattle.isle_ast_names.specs.Numbers.{IsSigned}
use Rattle.isle_printer_layout.specs.ReadBack.{ReadsAs, Separated}
use Rattle.isle_printer_layout.specs.NameShapes.{integer_text}

-- one more digit after a number
weighed : (x p r v d : ℕ) → x * (p * r) + (v * r + d) ≡ (x * p + v) * r + d
weighed x p r v d = omega arith

number_of-push : (radix : ℕ) (ds : List ℕ) (d : ℕ) → number_of radix (ds ++ d ∷ []) ≡ number_of radix ds * radix + d
number_of-push radix [] d = last d radix
  where
    last : (d radix : ℕ) → d * radix ^ 0 + 0 ≡ 0 * radix + d
    last d radix = ap (λ p. d * p + 0) (pow-zero radix) ∙ omega arith
number_of-push radix (x ∷ xs) d =
    let more : length (xs ++ d ∷ []) ≡ suc (length xs) = length-append xs (d ∷ []) ∙ omega arith in
    let power : radix ^ length (xs ++ d ∷ []) ≡ radix ^ length xs * radix = ap (λ n. radix ^ n) more ∙ pow-suc radix (length xs) in
    ap (λ p. x * p + number_of radix (xs ++ d ∷ [])) power
    ∙ ap (λ v. x * (radix ^ length xs * radix) + v) (number_of-push radix xs d)
    ∙ weighed x (radix ^ length xs) radix (number_of radix xs) d

-- a decimal digit, as each test sees it
record IsDigitByte (b : ℕ) : Type 0 where
  in_literal : in_literal b ≡ true
  begins : begins_literal b ≡ true
  no_underscore : (b == 95) ≡ false
  no_minus : (b == 45) ≡ false
  no_radix : radix_of b ≡ None
  small : ltb (digit_value b) 10 ≡ true

digit_byte : (b : ℕ) → is_ascii_digit b ≡ true → IsDigitByte b
unfolding in_literal begins_literal radix_of
digit_byte b h = record {
  in_literal = grind (arith, nat_tests);
  begins = grind (arith, nat_tests);
  no_underscore = grind (arith, nat_tests);
  no_minus = grind (arith, nat_tests);
  no_radix = grind (arith, nat_tests);
  small = grind (arith, nat_tests);
}

digit_of : (d : ℕ) → d < 10 → is_ascii_digit (48 + d) ≡ true
digit_of d h = grind (arith, nat_tests)

value_of_digit : (d : ℕ) → d < 10 → digit_value (48 + d) ≡ d
value_of_digit d h = grind (arith, nat_tests)

-- what ends a symbol is no letter of a prefix
no_radix : (b : ℕ) → in_symbol b ≡ false → radix_of b ≡ None
unfolding in_symbol is_blank radix_of
no_radix b h = grind (arith, nat_tests)

-- a byte of a literal is one of a symbol
no_literal : (b : ℕ) → in_symbol b ≡ false → in_literal b ≡ false
unfolding in_symbol is_blank in_literal
no_literal b h = grind (arith, nat_tests)

-- the text of a number: decimal digits, one at least, that make the number
record IsDigits (n : ℕ) (text : List ℕ) : Type 0 where
  begins : begins_with is_ascii_digit text ≡ true
  each : list_all is_ascii_digit text ≡ true
  value : number_of 10 (map digit_value text) ≡ n

-- what a text begins with, it begins with before any rest
pub begins_with-append : (kind : ℕ → Bool) (xs ys : List ℕ) → begins_with kind xs ≡ true → begins_with kind (xs ++ ys) ≡ true
begins_with-append kind [] ys h = absurd (false≢true h)
begins_with-append kind (x ∷ xs) ys h = h

IsDigits-one : (n : ℕ) → n < 10 → IsDigits n ((48 + n) ∷ [])
IsDigits-one n h = record {
  begins = digit_of n h;
  each = and_from _ true (digit_of n h) refl;
  value = number_of-push 10 [] (digit_value (48 + n)) ∙ ap (λ d. 0 * 10 + d) (value_of_digit n h) ∙ omega arith;
}

IsDigits-more : (n : ℕ) (ds : List ℕ) → 10 ≤ n → IsDigits (n / 10) ds → IsDigits n (ds ++ ((48 + n % 10) ∷ []))
IsDigits-more n ds h is =
    let small : n % 10 < 10 = omega arith in
    record {
      begins = begins_with-append is_ascii_digit ds ((48 + n % 10) ∷ []) is.begins;
      each = list_all-append is_ascii_digit ds ((48 + n % 10) ∷ []) ∙ and_from _ _ is.each (and_from _ true (digit_of (n % 10) small) refl);
      value =
          ap (number_of 10) (map-append digit_value ds ((48 + n % 10) ∷ []))
          ∙ number_of-push 10 (map digit_value ds) (digit_value (48 + n % 10))
          ∙ ap (λ v. v * 10 + digit_value (48 + n % 10)) is.value
          ∙ ap (λ d. n / 10 * 10 + d) (value_of_digit (n % 10) small)
          ∙ omega arith;
    }

decimal-IsDigits : (n : ℕ) → n < 10 ^ 64 → IsDigits n (decimal n)
decimal-IsDigits = decimal_by_steps_wide IsDigits IsDigits-one IsDigits-more

-- each digit is a byte of a literal, none is `_`, and each is one of the radix
each_in_literal : (text : List ℕ) → list_all is_ascii_digit text ≡ true → list_all in_literal text ≡ true
each_in_literal [] h = refl
each_in_literal (b ∷ bs) h =
    let p = and_parts _ _ h in
    and_from _ _ (digit_byte b p.0).in_literal (each_in_literal bs p.1)

abbrev counts : ℕ → Bool
counts b = not (b == 95)

all_count : (text : List ℕ) → list_all is_ascii_digit text ≡ true → filter counts text ≡ text
all_count [] h = refl
all_count (b ∷ bs) h =
    let p = and_parts _ _ h in
    ap (λ t. cond (not t) (b ∷ filter counts bs) (filter counts bs)) (digit_byte b p.0).no_underscore
    ∙ ap (λ ds. b ∷ ds) (all_count bs p.1)

each_small : (text : List ℕ) → list_all is_ascii_digit text ≡ true → list_all (λ e. ltb e 10) (map digit_value text) ≡ true
each_small [] h = refl
each_small (b ∷ bs) h =
    let p = and_parts _ _ h in
    and_from _ _ (digit_byte b p.0).small (each_small bs p.1)

are_digits-text : (text : List ℕ) → begins_with is_ascii_digit text ≡ true → list_all is_ascii_digit text ≡ true → are_digits 10 (map digit_value text) ≡ true
are_digits-text [] begins h = absurd (false≢true begins)
are_digits-text (b ∷ bs) begins h = each_small (b ∷ bs) h

-- no prefix stands at a number
no_prefix_here : (b c : ℕ) (behind : List ℕ) → radix_of c ≡ None → prefix_radix (b ∷ c ∷ behind) ≡ None
no_prefix_here b c behind e = ap (λ r. cond (b == 48) r None) e ∙ same (b == 48)
  where
    none : Option ℕ
    none = None

    same : (t : Bool) → cond t none none ≡ none
    same true = refl
    same false = refl

no_prefix : (text rest : List ℕ) → begins_with is_ascii_digit text ≡ true → list_all is_ascii_digit text ≡ true → Separated rest → prefix_radix (text ++ rest) ≡ None
no_prefix [] rest begins h apart = absurd (false≢true begins)
no_prefix (b ∷ []) [] begins h apart = refl
no_prefix (b ∷ []) (c ∷ behind) begins h apart = no_prefix_here b c behind (no_radix c apart)
no_prefix (b ∷ c ∷ more) rest begins h apart =
    no_prefix_here b c (more ++ rest) (digit_byte c (and_parts _ _ (and_parts _ _ h).1).0).no_radix

stops_literal : (rest : List ℕ) → Separated rest → begins_with in_literal rest ≡ false
stops_literal [] apart = refl
stops_literal (b ∷ bs) apart = no_literal b apart

no_sign : (text rest : List ℕ) → begins_with is_ascii_digit text ≡ true → has_minus (text ++ rest) ≡ false
no_sign [] rest begins = absurd (false≢true begins)
no_sign (b ∷ bs) rest begins = (digit_byte b begins).no_minus

begins_number : (text rest : List ℕ) → begins_with is_ascii_digit text ≡ true → begins_with begins_literal (text ++ rest) ≡ true
begins_number [] rest begins = absurd (false≢true begins)
begins_number (b ∷ bs) rest begins = (digit_byte b begins).begins

-- without a sign and a prefix, a literal is its run
plain_literal : (all run rest : List ℕ) (value : Option ℤ) → begins_with begins_literal all ≡ true → has_minus all ≡ false → prefix_radix all ≡ None
    → Longest in_literal all run rest → value ≡ value_of false 10 (digits_of run) → Literal all value rest
plain_literal all run rest value begins sign prefix longest meaning =
    let unsigned : behind_minus all ≡ all = ap (λ t. cond t (drop 1 all) all) sign in
    let plain : behind_prefix (behind_minus all) ≡ all =
    ap behind_prefix unsigned ∙ ap (λ r. cond (is_some r) (drop 2 all) all) prefix in
    let radix : radix_at (behind_minus all) ≡ 10 = ap radix_at unsigned ∙ ap (λ r. unwrap_or r 10) prefix in
    record {
      begins = begins;
      run = run;
      longest = subst (λ t. Longest in_literal t run rest) (sym plain) longest;
      meaning = meaning ∙ ap (λ m. value_of m 10 (digits_of run)) (sym sign) ∙ ap (λ r. value_of (has_minus all) r (digits_of run)) (sym radix);
    }

-- what the digits of a number mean after a sign, or after none
meaning-digits : (minus : Bool) (n : ℕ) (text : List ℕ) → IsDigits n text → value_of minus 10 (digits_of text) ≡ signed minus n
meaning-digits minus n text is =
    let digits : digits_of text ≡ map digit_value text = ap (map digit_value) (all_count text is.each) in
    ap (value_of minus 10) digits
    ∙ ap (λ t. cond t (signed minus (number_of 10 (map digit_value text))) None) (are_digits-text text is.begins is.each)
    ∙ ap (signed minus) is.value

digits-Literal : (n : ℕ) (value : Option ℤ) (text rest : List ℕ) → signed false n ≡ value → IsDigits n text → Separated rest → Literal (text ++ rest) value rest
digits-Literal n value text rest signed_value is apart =
    plain_literal (text ++ rest) text rest value
    (begins_number text rest is.begins)
    (no_sign text rest is.begins)
    (no_prefix text rest is.begins is.each apart)
    (record { split = refl; each = each_in_literal text is.each; stops = stops_literal rest apart })
    (sym (meaning-digits false n text is ∙ signed_value))

small_value : (n : ℕ) → n < 2 ^ 127 → signed false n ≡ Some (pos n)
small_value n fits = grind (arith, nat_tests)

-- A number below 2^127 in decimal reads back as that integer.
pub decimal-ReadsAs : (n : ℕ) → n < 2 ^ 127 → ReadsAs (decimal n) (integer (pos n))
decimal-ReadsAs n fits rest apart =
    digits-Literal n (Some (pos n)) (decimal n) rest (small_value n fits) (decimal-IsDigits n (omega arith)) apart

-- after a sign

begins-minus : begins_literal 45 ≡ true
unfolding begins_literal
begins-minus = refl

negative_value : (n : ℕ) → suc n < 2 ^ 127 → signed true (suc n) ≡ Some (negsuc n)
negative_value n fits = grind (arith, nat_tests)

-- digits after `-` are a literal of the negative number
minus-Literal : (n : ℕ) (text rest : List ℕ) → suc n < 2 ^ 127 → IsDigits (suc n) text → Separated rest → Literal (45 ∷ text ++ rest) (Some (negsuc n)) rest
minus-Literal n text rest fits is apart =
    let prefix : prefix_radix (text ++ rest) ≡ None = no_prefix text rest is.begins is.each apart in
    let plain : behind_prefix (text ++ rest) ≡ text ++ rest = ap (λ r. cond (is_some r) (drop 2 (text ++ rest)) (text ++ rest)) prefix in
    let radix : radix_at (text ++ rest) ≡ 10 = ap (λ r. unwrap_or r 10) prefix in
    record {
      begins = begins-minus;
      run = text;
      longest = subst (λ t. Longest in_literal t text rest) (sym plain) (record { split = refl; each = each_in_literal text is.each; stops = stops_literal rest apart });
      meaning = sym (ap (λ r. value_of true r (digits_of text)) radix ∙ meaning-digits true (suc n) text is ∙ negative_value n fits);
    }

negative-ReadsAs : (n : ℕ) → suc n < 2 ^ 127 → ReadsAs (signed_decimal (negsuc n)) (integer (negsuc n))
negative-ReadsAs n fits rest apart =
    minus-Literal n (decimal (suc n)) rest fits (decimal-IsDigits (suc n) (omega arith)) apart

-- A priority in decimal reads back as that integer.
pub signed_decimal-ReadsAs : (z : ℤ) → IsSigned 63 z → ReadsAs (signed_decimal z) (integer z)
signed_decimal-ReadsAs (pos n) fits = decimal-ReadsAs n (omega arith)
signed_decimal-ReadsAs (negsuc n) fits = negative-ReadsAs n (omega arith)

-- the least integer, by the number of the same bits

abbrev least_text : List ℕ
least_text = codes "170141183460469231731687303715884105728"

least-IsDigits : IsDigits (2 ^ 127) least_text
least-IsDigits = record { begins = refl; each = refl; value = refl }

least_value : (n : ℕ) → suc n ≡ 2 ^ 127 → signed false (2 ^ 127) ≡ Some (negsuc n)
least_value n e = ap Some (wrapped n e)
  where
    wrapped : (n : ℕ) → suc n ≡ 2 ^ 127 → pos (2 ^ 127) -ℤ pos (2 ^ 128) ≡ negsuc n
    wrapped n e = omega (arith, ints)

below-ReadsAs : (n : ℕ) (least : Bool) → n < 2 ^ 127 → (suc n == 2 ^ 127) ≡ least → ReadsAs (cond least least_text (signed_decimal (negsuc n))) (integer (negsuc n))
below-ReadsAs n true fits e rest apart =
    let is_least : suc n ≡ 2 ^ 127 = grind (arith, nat_tests) in
    digits-Literal (2 ^ 127) (Some (negsuc n)) least_text rest (least_value n is_least) least-IsDigits apart
below-ReadsAs n false fits e rest apart =
    let above : suc n < 2 ^ 127 = grind (arith, nat_tests) in
    negative-ReadsAs n above rest apart

-- An integer of 128 bits reads back as itself.
pub integer_text-ReadsAs : (z : ℤ) → IsSigned 127 z → ReadsAs (integer_text z) (integer z)
integer_text-ReadsAs (pos n) fits = decimal-ReadsAs n fits
integer_text-ReadsAs (negsuc n) fits = below-ReadsAs n (suc n == 2 ^ 127) fits refl
