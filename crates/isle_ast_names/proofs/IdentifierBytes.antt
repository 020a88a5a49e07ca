-- The bytes of an identifier: none ends a symbol, and the first one begins one.
use Rattle.std.proofs.Common.{◌≡◌, ℕ, ◌+◌, ◌/◌, ◌%◌, ◌<◌, ◌≤◌, List, [], ◌∷◌, ◌++◌, Bool, true, false, cond, ltb, refl, ap, sym, subst, ◌∙◌, ◌⊎◌, ⊎_elim, arith}
use Rattle.std.specs.List.{list_all}
use Rattle.std.specs.Str.{chars, IsUtf8, is_utf8}
use Rattle.std.proofs.lemmas.Bool.{cases_lt, and_parts, and_from}
use Rattle.std.proofs.lemmas.Bool.Decides.{nat_tests}
use Rattle.std.proofs.lemmas.Str.{IsUtf8-from_is_utf8, encodes-chars, encode_ascii}
use Rattle.std.proofs.lemmas.List.Folds.{list_all-append}
use lib.Utf8.{encode, encodes}
use Rattle.isle_base.specs.Literals.{begins_literal}
use Rattle.isle_base.specs.Spellings.{in_symbol, begins_symbol, Spelling}
use Rattle.isle_base.specs.Skips.{begins_with, is_blank}
use Rattle.isle_base.specs.Token.{symbol}
use Rattle.isle_base.proofs.Minus.{plain_here}
use Rattle.isle_ast_names.specs.Identifier.{is_identifier, are_identifier, begins_identifier, continues_identifier}

-- a byte that isn't ASCII
in_symbol_high : (b : ℕ) → 128 ≤ b → in_symbol b ≡ true
unfolding in_symbol is_blank
in_symbol_high b h = grind (arith, nat_tests)

begins_symbol_high : (b : ℕ) → 128 ≤ b → begins_symbol b ≡ true
unfolding begins_symbol in_symbol is_blank begins_literal
begins_symbol_high b h = grind (arith, nat_tests)

-- an ASCII character that may stand in an identifier
in_symbol_low : (c : ℕ) → c < 128 → continues_identifier c ≡ true → in_symbol c ≡ true
unfolding in_symbol is_blank
in_symbol_low c h e = grind (arith, nat_tests)

begins_symbol_low : (c : ℕ) → c < 128 → begins_identifier c ≡ true → begins_symbol c ≡ true
unfolding begins_symbol in_symbol is_blank begins_literal
begins_symbol_low c h e = grind (arith, nat_tests)

in_symbol_cons : (b : ℕ) (bs : List ℕ) → in_symbol b ≡ true → list_all in_symbol bs ≡ true → list_all in_symbol (b ∷ bs) ≡ true
in_symbol_cons b bs p q = and_from (in_symbol b) (list_all in_symbol bs) p q

-- the bytes of a character past ASCII: none of them is ASCII
abbrev High : List ℕ → Type 0
High xs = (b : ℕ) × (bs : List ℕ) × (xs ≡ b ∷ bs) × (128 ≤ b) × (list_all in_symbol bs ≡ true)

High-cond : (t : Bool) (xs ys : List ℕ) → High xs → High ys → High (cond t xs ys)
High-cond true xs ys p q = p
High-cond false xs ys p q = q

next_byte : (x : ℕ) (bs : List ℕ) → list_all in_symbol bs ≡ true → list_all in_symbol ((128 + x) ∷ bs) ≡ true
next_byte x bs e = in_symbol_cons (128 + x) bs (in_symbol_high (128 + x) (omega arith)) e

High-encode : (c : ℕ) → 128 ≤ c → High (encode c)
unfolding encode
High-encode c h =
    let past : ltb c 128 ≡ false = grind (arith, nat_tests) in
    let one = λ (x : ℕ). next_byte x [] refl in
    let two = λ (x y : ℕ). next_byte x ((128 + y) ∷ []) (one y) in
    let three = λ (x y z : ℕ). next_byte x ((128 + y) ∷ (128 + z) ∷ []) (two y z) in
    let High_of : Bool → Type 0 = λ t. High (cond t (c ∷ []) (cond (ltb c 2048) ((192 + c / 64) ∷ (128 + c % 64) ∷ []) (cond (ltb c 65536) ((224 + c / 4096) ∷ (128 + c / 64 % 64) ∷ (128 + c % 64) ∷ []) ((240 + c / 262144) ∷ (128 + c / 4096 % 64) ∷ (128 + c / 64 % 64) ∷ (128 + c % 64) ∷ [])))) in
    subst High_of (sym past)
    (High-cond (ltb c 2048) _ _
    (192 + c / 64, (128 + c % 64) ∷ [], refl, omega arith, one (c % 64))
    (High-cond (ltb c 65536) _ _
    (224 + c / 4096, (128 + c / 64 % 64) ∷ (128 + c % 64) ∷ [], refl, omega arith, two (c / 64 % 64) (c % 64))
    (240 + c / 262144, (128 + c / 4096 % 64) ∷ (128 + c / 64 % 64) ∷ (128 + c % 64) ∷ [], refl, omega arith, three (c / 4096 % 64) (c / 64 % 64) (c % 64))))

-- which of the two a character is
by_size : (c : ℕ) → (c < 128) ⊎ (128 ≤ c)
by_size c = cases_lt c 128

continuing_bytes : (c : ℕ) → continues_identifier c ≡ true → list_all in_symbol (encode c) ≡ true
continuing_bytes c e =
    ⊎_elim
    (λ low. subst (λ bs. list_all in_symbol bs ≡ true) (sym (encode_ascii c low)) (in_symbol_cons c [] (in_symbol_low c low e) refl))
    (λ high. let p = High-encode c high in
    subst (λ bs. list_all in_symbol bs ≡ true) (sym p.2) (in_symbol_cons p.0 p.1 (in_symbol_high p.0 p.3) p.4))
    (by_size c)

others_bytes : (cs : List ℕ) → list_all continues_identifier cs ≡ true → list_all in_symbol (encodes cs) ≡ true
others_bytes [] e = refl
others_bytes (c ∷ cs) e =
    let p = and_parts (continues_identifier c) (list_all continues_identifier cs) e in
    list_all-append in_symbol (encode c) (encodes cs)
    ∙ and_from (list_all in_symbol (encode c)) (list_all in_symbol (encodes cs)) (continuing_bytes c p.0) (others_bytes cs p.1)

-- the bytes of a symbol: one that begins it, and others that may stand in it
pub record SymbolBytes (text : List ℕ) : Type 0 where
  pub first : ℕ
  pub others : List ℕ
  pub split : text ≡ first ∷ others
  pub begins : begins_symbol first ≡ true
  pub each : list_all in_symbol others ≡ true

beginning_bytes : (c : ℕ) → begins_identifier c ≡ true → SymbolBytes (encode c)
beginning_bytes c e =
    ⊎_elim
    (λ low. record {
      first = c;
      others = [];
      split = encode_ascii c low;
      begins = begins_symbol_low c low e;
      each = refl;
    })
    (λ high. let p = High-encode c high in record {
      first = p.0;
      others = p.1;
      split = p.2;
      begins = begins_symbol_high p.0 p.3;
      each = p.4;
    })
    (by_size c)

SymbolBytes-append : (xs ys : List ℕ) → SymbolBytes xs → list_all in_symbol ys ≡ true → SymbolBytes (xs ++ ys)
SymbolBytes-append xs ys h e = record {
  first = h.first;
  others = h.others ++ ys;
  split = ap (λ x. x ++ ys) h.split;
  begins = h.begins;
  each = list_all-append in_symbol h.others ys ∙ and_from (list_all in_symbol h.others) (list_all in_symbol ys) h.each e;
}

are_identifier_bytes : (cs : List ℕ) → are_identifier cs ≡ true → SymbolBytes (encodes cs)
are_identifier_bytes [] e = cc
are_identifier_bytes (c ∷ cs) e =
    let p = and_parts (begins_identifier c) (list_all continues_identifier cs) e in
    SymbolBytes-append (encode c) (encodes cs) (beginning_bytes c p.0) (others_bytes cs p.1)

identifier_parts : (text : List ℕ) → is_identifier text ≡ true → (is_utf8 text ≡ true) × (are_identifier (chars text) ≡ true)
unfolding is_identifier
identifier_parts text e = and_parts (is_utf8 text) (are_identifier (chars text)) e

-- an identifier is valid UTF-8
pub identifier_is_text : (text : List ℕ) → is_identifier text ≡ true → IsUtf8 text
identifier_is_text text e = IsUtf8-from_is_utf8 text (identifier_parts text e).0

pub identifier_bytes : (text : List ℕ) → is_identifier text ≡ true → SymbolBytes text
identifier_bytes text e =
    subst SymbolBytes (encodes-chars text (identifier_is_text text e)) (are_identifier_bytes (chars text) (identifier_parts text e).1)

begins_symbol_in : (b : ℕ) → begins_symbol b ≡ true → in_symbol b ≡ true
unfolding begins_symbol
begins_symbol_in b e = (and_parts (in_symbol b) _ e).0

-- its first byte begins a symbol
pub identifier_begins_symbol : (text : List ℕ) → is_identifier text ≡ true → begins_with begins_symbol text ≡ true
identifier_begins_symbol text e =
    let h = identifier_bytes text e in
    subst (λ bs. begins_with begins_symbol bs ≡ true) (sym h.split) h.begins

-- none of its bytes ends one
pub identifier_in_symbol : (text : List ℕ) → is_identifier text ≡ true → list_all in_symbol text ≡ true
identifier_in_symbol text e =
    let h = identifier_bytes text e in
    subst (λ bs. list_all in_symbol bs ≡ true) (sym h.split) (in_symbol_cons h.first h.others (begins_symbol_in h.first h.begins) h.each)

-- so where a byte that ends symbols follows it, or the end of the text, it is one symbol
pub identifier_is_symbol : (text rest : List ℕ) → is_identifier text ≡ true → begins_with in_symbol rest ≡ false →
    Spelling (text ++ rest) (symbol text) rest
identifier_is_symbol text rest e stops =
    let h = identifier_bytes text e in (
      plain_here (text ++ rest) (subst (λ bs. begins_with begins_symbol (bs ++ rest) ≡ true) (sym h.split) h.begins),
      record { split = refl; each = identifier_in_symbol text e; stops = stops },
    )
