-- What the digits of a header line give.
use Rattle.std.proofs.Common.{◌≡◌, ℕ, ◌<◌, ◌^◌, List, length, get_or, true, None, Some, Result, Ok, Err, arith, refl, sym, inl, inr, nat_lt, ◌&&◌, ap, decimal}
use Rattle.std.specs.Int.{IsInRange}
use Rattle.std.specs.Result.{result_ok}
use Rattle.std.specs.Str.{all_ascii_digits, IsUtf8}
use Rattle.std.specs.Str.Parse.{ParsesUnsigned, digits_value}
use Rattle.std.proofs.lemmas.Str.{IsUtf8-from_ascii}
use Rattle.std.proofs.lemmas.Str.Parse.{IsNumeralModel, numerals_by_value, tells_all_ascii_digits, tells_by_index, parse_digits}
use Rattle.std.proofs.lemmas.Bool.{lt-ltb, ltb-true, cases_Bool, cases_lt, and_parts}
use Rattle.std.proofs.lemmas.Fmt.{decimal_is_IsNumeral}
use Rattle.std.proofs.lemmas.Grind.{common_steps}
use Rattle.isle_lsp_frames.specs.Frames.{number_of}

pub own : IsNumeralModel (λ ds. all_ascii_digits ds ≡ true) (digits_value 10)
own = numerals_by_value _ tells_all_ascii_digits

by_index : IsNumeralModel (λ ds. (i : ℕ) → i < length ds → IsInRange 48 57 (get_or ds i 0)) (digits_value 10)
by_index = numerals_by_value _ tells_by_index

pub digits_from_index : (ds : List ℕ) → ((i : ℕ) → i < length ds → IsInRange 48 57 (get_or ds i 0)) → all_ascii_digits ds ≡ true
digits_from_index ds h = own.from ds (by_index.to ds h)

pub index_from_digits : (ds : List ℕ) → all_ascii_digits ds ≡ true → (i : ℕ) → i < length ds → IsInRange 48 57 (get_or ds i 0)
index_from_digits ds h = by_index.from ds (own.to ds h)

pub no_digits : (ds : List ℕ) → (((i : ℕ) → i < length ds → IsInRange 48 57 (get_or ds i 0)) → ⊥) → None ≡ number_of ds
unfolding number_of
no_digits ds h =
    elim (cases_Bool (all_ascii_digits ds)) [
      | inl e ↦ absurd (h (index_from_digits ds e))
      | inr e ↦ rw e refl
    ]

ascii_at : (ds : List ℕ) → ((i : ℕ) → i < length ds → IsInRange 48 57 (get_or ds i 0)) → (i : ℕ) → get_or ds i 0 < 128
ascii_at ds h i =
    elim (cases_lt i (length ds)) [
      | inl l ↦ let w = h i l in omega (arith, w.0, w.1)
      | inr g ↦ let e : get_or ds i 0 ≡ 0 = grind (arith, common_steps) in omega arith
    ]

pub digits_utf8 : (ds : List ℕ) → ((i : ℕ) → i < length ds → IsInRange 48 57 (get_or ds i 0)) → IsUtf8 ds
digits_utf8 ds h = IsUtf8-from_ascii ds (ascii_at ds h)

number_ok : (ds : List ℕ) (x : ℕ) → all_ascii_digits ds ≡ true → 0 < length ds → digits_value 10 ds < 2 ^ 64 → x ≡ digits_value 10 ds → Some x ≡ number_of ds
unfolding number_of
number_ok ds x p l v e =
    let a : nat_lt 0 (length ds) ≡ true = lt-ltb _ _ l in
    let b : nat_lt (digits_value 10 ds) (2 ^ 64) ≡ true = lt-ltb _ _ v in
    rw (p, a, b) (ap Some e)

number_err : (ds : List ℕ) → (0 < length ds × digits_value 10 ds < 2 ^ 64 → ⊥) → None ≡ number_of ds
unfolding number_of
number_err ds n =
    elim (cases_Bool (all_ascii_digits ds && (nat_lt 0 (length ds) && nat_lt (digits_value 10 ds) (2 ^ 64)))) [
      | inl e ↦ let q = and_parts _ _ (and_parts _ _ e).1 in absurd (n (ltb-true _ _ q.0, ltb-true _ _ q.1))
      | inr e ↦ rw e refl
    ]

pub number_parsed : {E : Type 0} (ds : List ℕ) (r : Result ℕ E) → ParsesUnsigned 64 10 ds r → all_ascii_digits ds ≡ true → result_ok r ≡ number_of ds
number_parsed {E = E} ds (Ok x) h p = let q = parse_digits own {E = E} 64 ds (Ok x) h p in number_ok ds x p q.0.0 q.0.1 q.1
number_parsed ds (Err e) h p = number_err ds (parse_digits own 64 ds (Err e) h p)

pub number_again : (n : ℕ) → n < 2 ^ 64 → number_of (decimal n) ≡ Some n
number_again n h =
    let own' = decimal_is_IsNumeral n h in
    sym (number_ok (decimal n) n (own.from _ own'.0.1) own'.0.0 (omega (arith, own'.1)) (sym own'.1))
