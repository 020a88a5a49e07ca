-- What an `id` is written as.
use Rattle.std.proofs.Common.{◌≡◌, ℕ, ◌^◌, ◌<◌, ℤ, pos, negsuc, List, [], ◌∷◌, ◌++◌, None, Some, true, int_lt, SFits, w64, decimal, refl, sym, ap, subst, ◌∙◌, arith}
use Rattle.std.specs.Float.{float_is_finite}
use Rattle.std.specs.Fmt.{signed_decimal}
use Rattle.json.specs.Json as tree
use Rattle.json.specs.Token as json
use Rattle.serde_json.proofs.Numbers.{number_of-decimal, number_of-negative}
use Rattle.serde_json.specs.Data.{Data, Num, null, boolean, number, string, array, object, unsigned, negative, float}
use Rattle.serde_json.specs.Find.{as_i64, as_number, as_str, as_u64, of_integer, to_float}
use Rattle.serde_json.specs.Number.{is_valid, num_of}
use Rattle.serde_json.specs.Read.{number_of}
use Rattle.serde_json.specs.declared.number.N.{N}
use Rattle.serde_json.specs.declared.number.N.TheVariants.{PosInt, NegInt, Float as FloatOf}
use Rattle.isle_lsp_protocol.specs.Replies.{IsReplyId}
use Rattle.isle_lsp_protocol.specs.Written.{Adds, Reads}

is_string : (d : Data) (s : List ℕ) → as_str d ≡ Some s → d ≡ string s
is_string null s e = cc
is_string (boolean b) s e = cc
is_string (number n) s e = cc
is_string (string t) s e = cc
is_string (array ds) s e = cc
is_string (object ms) s e = cc

is_number : (d : Data) (n : Num) → as_number d ≡ Some n → d ≡ number n
is_number null n e = cc
is_number (boolean b) n e = cc
is_number (number m) n e = cc
is_number (string s) n e = cc
is_number (array ds) n e = cc
is_number (object ms) n e = cc

pub adds_text : (d : Data) (s : List ℕ) (old new : List json.Token) → as_str d ≡ Some s → new ≡ old ++ json.string s ∷ [] → Adds d old new
adds_text d s old new e is = subst (λ x. Adds x old new) (sym (is_string d s e)) (tree.string s, is, refl, omega arith)

pub adds_number : (d : Data) (n : Num) (old new : List json.Token) → as_number d ≡ Some n → Adds (number n) old new → Adds d old new
adds_number d n old new e a = subst (λ x. Adds x old new) (sym (is_number d n e)) a

pub adds_null : (d : Data) (old new : List json.Token) → as_str d ≡ None → as_number d ≡ None → IsReplyId d → new ≡ old ++ json.null ∷ [] → Adds d old new
adds_null null old new e f k is = (tree.null, is, refl, omega arith)
adds_null (boolean b) old new e f k is = absurd k
adds_null (number n) old new e f k is = cc
adds_null (string s) old new e f k is = cc
adds_null (array ds) old new e f k is = absurd k
adds_null (object ms) old new e f k is = absurd k

-- ---- numbers

is_unsigned : (n : Num) (m : ℕ) → as_u64 n ≡ Some m → n ≡ unsigned m
is_unsigned (unsigned k) m e = cc
is_unsigned (negative z) m e = cc
is_unsigned (float x) m e = cc

-- a number that reads as this was added
pub adds_text_of : (n : Num) (s : List ℕ) (old new : List json.Token) → new ≡ old ++ json.number s ∷ [] → number_of s ≡ Some n → Adds (number n) old new
adds_text_of n s old new is read = (tree.number s, is, rw read refl, omega arith)

pub adds_unsigned : (n : Num) (m : ℕ) (old new : List json.Token) → as_u64 n ≡ Some m → m < 2 ^ 64 → new ≡ old ++ json.number (decimal m) ∷ [] → Adds (number n) old new
adds_unsigned n m old new e fits is = adds_text_of n (decimal m) old new is (number_of-decimal m fits ∙ ap Some (sym (is_unsigned n m e)))

is_negative : (n : N) (z : ℤ) → is_valid n ≡ true → as_u64 (num_of n) ≡ None → as_i64 (num_of n) ≡ Some z → (num_of n ≡ negative z) × (int_lt z (pos 0) ≡ true)
is_negative (PosInt m) z valid e f = cc
is_negative (NegInt y) z valid e f = let same : y ≡ z = cc in (ap negative same, subst (λ x. int_lt x (pos 0) ≡ true) same valid)
is_negative (FloatOf x) z valid e f = cc

below_zero : (z : ℤ) → int_lt z (pos 0) ≡ true → SFits w64 z → number_of (signed_decimal z) ≡ Some (negative z)
below_zero (pos n) e fits = absurd (grind arith)
below_zero (negsuc n) e fits = number_of-negative n (grind arith)

pub adds_negative : (n : N) (z : ℤ) (old new : List json.Token) → is_valid n ≡ true → as_u64 (num_of n) ≡ None → as_i64 (num_of n) ≡ Some z → SFits w64 z → new ≡ old ++ json.number (signed_decimal z) ∷ [] → Adds (number (num_of n)) old new
adds_negative n z old new valid e f fits is =
    let found = is_negative n z valid e f in
    adds_text_of (num_of n) (signed_decimal z) old new is (below_zero z found.1 fits ∙ ap Some (sym found.0))

pub is_finite : (n : N) → is_valid n ≡ true → as_u64 (num_of n) ≡ None → as_i64 (num_of n) ≡ None → (num_of n ≡ float (to_float (num_of n))) × (float_is_finite (to_float (num_of n)) ≡ true)
is_finite (PosInt m) valid e f = cc
is_finite (NegInt z) valid e f = cc
is_finite (FloatOf x) valid e f = (refl, valid)

pub integer_reads : (z : ℤ) → SFits w64 z → Reads (number (of_integer z))
integer_reads (pos n) fits = rw (number_of-decimal n (grind arith)) refl
integer_reads (negsuc n) fits = rw (number_of-negative n (grind arith)) refl
