-- A character's first byte tells how many units of UTF-16 it has.
use Rattle.std.proofs.Common.{◌≡◌, ℕ, ◌+◌, ◌/◌, ◌%◌, ◌<◌, ◌≤◌, List, [], ◌∷◌, ◌++◌, length, true, false, arith, refl, ◌∙◌, ap, nat_lt, inl, inr}
use Rattle.std.proofs.lemmas.Bool.{cases_lt, lt-ltb, le-ltb, and_parts}
use Rattle.std.proofs.lemmas.Bool.Decides.{nat_tests}
use Rattle.std.proofs.Math.Utf8.{encode, encodes, scalars}
use Rattle.std.specs.Char.Escape.{encode_utf16}
use Rattle.isle_lsp_text.specs.Positions.{utf16_count, units, units_of}
use Rattle.isle_lsp_text.specs.declared.positions.PositionEncoding.TheVariants.{Utf8, Utf16}

inner_at : (b : ℕ) → 127 < b → b < 192 → utf16_count b ≡ 0
inner_at b l h = grind (arith, nat_tests)

one_at : (b : ℕ) → b < 128 → utf16_count b ≡ 1
one_at b h = grind (arith, nat_tests)

lead_at : (b : ℕ) → 191 < b → b < 240 → utf16_count b ≡ 1
lead_at b l h = grind (arith, nat_tests)

two_at : (b : ℕ) → 239 < b → utf16_count b ≡ 2
two_at b h = grind (arith, nat_tests)

units-append : (xs ys : List ℕ) → units Utf16 (xs ++ ys) ≡ units Utf16 xs + units Utf16 ys
units-append [] ys = omega arith
units-append (x ∷ xs) ys = let e = units-append xs ys in omega (arith, e)

next_at : (x : ℕ) → utf16_count (128 + x % 64) ≡ 0
next_at x = inner_at (128 + x % 64) (omega arith) (omega arith)

one_unit : (c : ℕ) → c < 65536 → length (encode_utf16 c) ≡ 1
one_unit c h = let t : nat_lt c 65536 ≡ true = lt-ltb _ _ h in rw t refl

two_units : (c : ℕ) → 65536 ≤ c → length (encode_utf16 c) ≡ 2
two_units c h = let t : nat_lt c 65536 ≡ false = le-ltb _ _ h in rw t refl

encode_1 : (c : ℕ) → c < 128 → encode c ≡ c ∷ []
unfolding encode
encode_1 c h = let t : nat_lt c 128 ≡ true = lt-ltb _ _ h in rw t refl

encode_2 : (c : ℕ) → 128 ≤ c → c < 2048 → encode c ≡ (192 + c / 64) ∷ (128 + c % 64) ∷ []
unfolding encode
encode_2 c l h =
    let t : nat_lt c 128 ≡ false = le-ltb _ _ l in
    let u : nat_lt c 2048 ≡ true = lt-ltb _ _ h in
    rw (t, u) refl

encode_3 : (c : ℕ) → 2048 ≤ c → c < 65536 → encode c ≡ (224 + c / 4096) ∷ (128 + (c / 64) % 64) ∷ (128 + c % 64) ∷ []
unfolding encode
encode_3 c l h =
    let t : nat_lt c 128 ≡ false = le-ltb _ _ (omega arith) in
    let u : nat_lt c 2048 ≡ false = le-ltb _ _ l in
    let v : nat_lt c 65536 ≡ true = lt-ltb _ _ h in
    rw (t, u, v) refl

encode_4 : (c : ℕ) → 65536 ≤ c → encode c ≡ (240 + c / 262144) ∷ (128 + (c / 4096) % 64) ∷ (128 + (c / 64) % 64) ∷ (128 + c % 64) ∷ []
unfolding encode
encode_4 c l =
    let t : nat_lt c 128 ≡ false = le-ltb _ _ (omega arith) in
    let u : nat_lt c 2048 ≡ false = le-ltb _ _ (omega arith) in
    let v : nat_lt c 65536 ≡ false = le-ltb _ _ l in
    rw (t, u, v) refl

units_1 : (c : ℕ) → c < 128 → units Utf16 (encode c) ≡ length (encode_utf16 c)
units_1 c h = ap (units Utf16) (encode_1 c h) ∙ (let n = one_at c h in let u = one_unit c (omega arith) in omega (arith, n, u))

units_2 : (c : ℕ) → 128 ≤ c → c < 2048 → units Utf16 (encode c) ≡ length (encode_utf16 c)
units_2 c l h =
    ap (units Utf16) (encode_2 c l h) ∙ (let n = lead_at (192 + c / 64) (omega arith) (omega arith) in let m = next_at c in let u = one_unit c (omega arith) in omega (arith, n, m, u))

units_3 : (c : ℕ) → 2048 ≤ c → c < 65536 → units Utf16 (encode c) ≡ length (encode_utf16 c)
units_3 c l h =
    ap (units Utf16) (encode_3 c l h) ∙ (let n = lead_at (224 + c / 4096) (omega arith) (omega arith) in let k = next_at (c / 64) in let m = next_at c in let u = one_unit c h in omega (arith, n, k, m, u))

units_4 : (c : ℕ) → 65536 ≤ c → units Utf16 (encode c) ≡ length (encode_utf16 c)
units_4 c l =
    ap (units Utf16) (encode_4 c l) ∙ (let n = two_at (240 + c / 262144) (omega arith) in let j = next_at (c / 4096) in let k = next_at (c / 64) in let m = next_at c in let u = two_units c l in omega (arith, n, j, k, m, u))

units_encode : (c : ℕ) → units Utf16 (encode c) ≡ length (encode_utf16 c)
units_encode c =
    elim (cases_lt c 128) [
      | inl h ↦ units_1 c h
      | inr h ↦
          elim (cases_lt c 2048) [
            | inl k ↦ units_2 c h k
            | inr k ↦ elim (cases_lt c 65536) [ inl m ↦ units_3 c k m | inr m ↦ units_4 c m ]
          ]
    ]

pub units_law : (cs : List ℕ) → scalars cs ≡ true → units Utf16 (encodes cs) ≡ units_of cs
units_law [] s = refl
units_law (c ∷ cs) s =
    let p = and_parts _ _ s in
    let here = units_encode c in
    let rest = units_law cs p.1 in
    let both = units-append (encode c) (encodes cs) in
    omega (arith, here, rest, both)

-- in UTF-8 each byte is a unit
pub bytes_law : (bytes : List ℕ) → units Utf8 bytes ≡ length bytes
bytes_law [] = refl
bytes_law (b ∷ bytes) = let rest = bytes_law bytes in omega (arith, rest)
