-- No identifier holds a byte that marks a word of specs: `#`, `:`, `!` or `?`.
use Rattle.std.proofs.Common.{◌≡◌, ℕ, ◌+◌, ◌/◌, ◌%◌, ◌<◌, ◌≤◌, eqb, ltb, List, [], ◌∷◌, ◌++◌, Bool, true, false, not, ◌&&◌, ◌||◌, cond, None, refl, ap, sym, subst, ◌∙◌, ⊎_elim, arith}
use Rattle.std.specs.List.{list_all}
use Rattle.std.specs.Str.{chars}
use Rattle.std.proofs.lemmas.Bool.{and_parts, cases_lt, not-true}
use Rattle.std.proofs.lemmas.Bool.Decides.{nat_tests}
use Rattle.std.proofs.lemmas.Str.{encodes-chars, encode_ascii}
use Rattle.std.proofs.lemmas.List.Folds.{list_all-append}
use Rattle.std.proofs.Math.Utf8.{encode, encodes}
use Rattle.isle_ast_names.specs.Identifier.{is_identifier, are_identifier, begins_identifier, continues_identifier, is_digit, is_letter}
use Rattle.isle_ast_names.proofs.IdentifierBytes.{identifier_bytes, identifier_is_text}
use Rattle.isle_parser_verification.specs.SpecWords.{before_last}

abbrev pub is_plain : ℕ → Bool
is_plain b = not (eqb b 33) && not (eqb b 35) && not (eqb b 58) && not (eqb b 63)

plain_high : (b : ℕ) → 128 ≤ b → is_plain b ≡ true
plain_high b h = grind (arith, nat_tests)

plain_low : (c : ℕ) → c < 128 → continues_identifier c ≡ true → is_plain c ≡ true
plain_low c h e = grind (arith, nat_tests)

plain_cons : (b : ℕ) (bs : List ℕ) → is_plain b ≡ true → list_all is_plain bs ≡ true → list_all is_plain (b ∷ bs) ≡ true
plain_cons b bs p q = ap (λ x. x && list_all is_plain bs) p ∙ q

plain_cond : (t : Bool) (xs ys : List ℕ) → list_all is_plain xs ≡ true → list_all is_plain ys ≡ true → list_all is_plain (cond t xs ys) ≡ true
plain_cond true xs ys p q = p
plain_cond false xs ys p q = q

plain_append : (xs ys : List ℕ) → list_all is_plain xs ≡ true → list_all is_plain ys ≡ true → list_all is_plain (xs ++ ys) ≡ true
plain_append xs ys p q = list_all-append is_plain xs ys ∙ ap (λ x. x && list_all is_plain ys) p ∙ q

-- the bytes of a character past ASCII
encode_high : (c : ℕ) → 128 ≤ c → list_all is_plain (encode c) ≡ true
unfolding encode
encode_high c h =
    let one = λ (x : ℕ). plain_cons (128 + x) [] (plain_high (128 + x) (omega arith)) refl in
    let two = λ (x y : ℕ). plain_cons (128 + x) ((128 + y) ∷ []) (plain_high (128 + x) (omega arith)) (one y) in
    let three = λ (x y z : ℕ). plain_cons (128 + x) ((128 + y) ∷ (128 + z) ∷ []) (plain_high (128 + x) (omega arith)) (two y z) in
    plain_cond (ltb c 128) _ _ (plain_cons c [] (plain_high c h) refl)
    (plain_cond (ltb c 2048) _ _
    (plain_cons (192 + c / 64) ((128 + c % 64) ∷ []) (plain_high (192 + c / 64) (omega arith)) (one (c % 64)))
    (plain_cond (ltb c 65536) _ _
    (plain_cons (224 + c / 4096) ((128 + c / 64 % 64) ∷ (128 + c % 64) ∷ []) (plain_high (224 + c / 4096) (omega arith)) (two (c / 64 % 64) (c % 64)))
    (plain_cons (240 + c / 262144) ((128 + c / 4096 % 64) ∷ (128 + c / 64 % 64) ∷ (128 + c % 64) ∷ []) (plain_high (240 + c / 262144) (omega arith)) (three (c / 4096 % 64) (c / 64 % 64) (c % 64)))))

encode_plain : (c : ℕ) → continues_identifier c ≡ true → list_all is_plain (encode c) ≡ true
encode_plain c e =
    ⊎_elim
    (λ low. subst (λ bs. list_all is_plain bs ≡ true) (sym (encode_ascii c low)) (plain_cons c [] (plain_low c low e) refl))
    (λ high. encode_high c high)
    (cases_lt c 128)

encodes_plain : (cs : List ℕ) → list_all continues_identifier cs ≡ true → list_all is_plain (encodes cs) ≡ true
encodes_plain [] e = refl
encodes_plain (c ∷ cs) e =
    let p = and_parts (continues_identifier c) (list_all continues_identifier cs) e in
    plain_append (encode c) (encodes cs) (encode_plain c p.0) (encodes_plain cs p.1)

first_of : (letter digit line dot dollar : Bool) → (letter || line || dollar) ≡ true → (letter || digit || line || dot || dollar) ≡ true
first_of true digit line dot dollar e = refl
first_of false true line dot dollar e = refl
first_of false false true dot dollar e = refl
first_of false false false true dollar e = refl
first_of false false false false dollar e = e

begins_continues : (c : ℕ) → begins_identifier c ≡ true → continues_identifier c ≡ true
begins_continues c e = first_of (is_letter c) (is_digit c) (eqb c 95) (eqb c 46) (eqb c 36) e

identifier_continues : (cs : List ℕ) → are_identifier cs ≡ true → list_all continues_identifier cs ≡ true
identifier_continues [] e = refl
identifier_continues (c ∷ cs) e =
    let p = and_parts (begins_identifier c) (list_all continues_identifier cs) e in
    ap (λ x. x && list_all continues_identifier cs) (begins_continues c p.0) ∙ p.1

identifier_chars : (text : List ℕ) → is_identifier text ≡ true → are_identifier (chars text) ≡ true
unfolding is_identifier
identifier_chars text e = (and_parts _ (are_identifier (chars text)) e).1

pub identifier_is_plain : (text : List ℕ) → is_identifier text ≡ true → list_all is_plain text ≡ true
identifier_is_plain text e =
    subst (λ bs. list_all is_plain bs ≡ true) (encodes-chars text (identifier_is_text text e)) (encodes_plain (chars text) (identifier_continues (chars text) (identifier_chars text e)))

-- an identifier is a byte that is no mark, and others
pub record PlainText (text : List ℕ) : Type 0 where
  pub first : ℕ
  pub others : List ℕ
  pub split : text ≡ first ∷ others
  pub plain : list_all is_plain (first ∷ others) ≡ true

plain_text : (text : List ℕ) → is_identifier text ≡ true → list_all is_plain text ≡ true → PlainText text
plain_text [] e p =
    let bytes = identifier_bytes [] e in
    let clash : [] ≡ bytes.first ∷ bytes.others = bytes.split in absurd cc
plain_text (b ∷ bs) e p = record { first = b; others = bs; split = refl; plain = p }

pub identifier_text : (text : List ℕ) → is_identifier text ≡ true → PlainText text
identifier_text text e = plain_text text e (identifier_is_plain text e)

-- ---- what a plain byte is not

pub record NoMark (b : ℕ) : Type 0 where
  pub exclamation : eqb b 33 ≡ false
  pub number : eqb b 35 ≡ false
  pub colon : eqb b 58 ≡ false
  pub question : eqb b 63 ≡ false

pub no_mark : (b : ℕ) (bs : List ℕ) → list_all is_plain (b ∷ bs) ≡ true → NoMark b
no_mark b bs e =
    let each = and_parts (is_plain b) (list_all is_plain bs) e in
    let last = and_parts (not (eqb b 33) && not (eqb b 35) && not (eqb b 58)) (not (eqb b 63)) each.0 in
    let third = and_parts (not (eqb b 33) && not (eqb b 35)) (not (eqb b 58)) last.0 in
    let second = and_parts (not (eqb b 33)) (not (eqb b 35)) third.0 in
    record {
      exclamation = not-true (eqb b 33) second.0;
      number = not-true (eqb b 35) second.1;
      colon = not-true (eqb b 58) third.1;
      question = not-true (eqb b 63) last.1;
    }

-- none of them is the last byte
pub no_question_mark : (text : List ℕ) → list_all is_plain text ≡ true → before_last 63 text ≡ None
no_question_mark [] e = refl
no_question_mark (x ∷ []) e = rw ((no_mark x [] e).question) refl
no_question_mark (x ∷ y ∷ text) e = rw (no_question_mark (y ∷ text) (and_parts (is_plain x) (list_all is_plain (y ∷ text)) e).1) refl

pub no_exclamation_mark : (text : List ℕ) → list_all is_plain text ≡ true → before_last 33 text ≡ None
no_exclamation_mark [] e = refl
no_exclamation_mark (x ∷ []) e = rw ((no_mark x [] e).exclamation) refl
no_exclamation_mark (x ∷ y ∷ text) e = rw (no_exclamation_mark (y ∷ text) (and_parts (is_plain x) (list_all is_plain (y ∷ text)) e).1) refl
