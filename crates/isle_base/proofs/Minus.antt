-- A lone `-`: no literal there has a value, and it is a symbol that ends right after it.
use Rattle.std.proofs.Common.{◌≡◌, ◌++◌, ℕ, ℤ, ◌+◌, ◌<◌, List, [], ◌∷◌, Bool, true, false, Some, None, is_some, drop, refl, sym, ap, subst, ◌∙◌, ⊎_elim, eqb, arith, ◌&&◌, ◌||◌, not}
use Rattle.std.specs.List.{list_all, prefix_len}
use Rattle.std.proofs.lemmas.Bool.{and_parts, and_from, or_cases, cases_Bool, both_ways, cond-false, eqb-true, eq-eqb, ne_eqb}
use Rattle.std.proofs.lemmas.List.{drop-drop}
use Rattle.std.proofs.lemmas.Bool.Decides.{nat_tests}
use Rattle.isle_base.specs.Literals.{begins_literal, in_literal, has_minus, radix_of, prefix_radix, radix_at, behind_prefix, digits_of, value_of, Literal}
use Rattle.isle_base.specs.Spellings.{in_symbol, begins_symbol, is_lone_minus, symbol_here}
use Rattle.isle_base.specs.Skips.{Longest, begins_with, is_blank}
use Rattle.isle_base.proofs.Runs.{prefix_len-yes, prefix_len-no}

in_literal_in_symbol : (b : ℕ) → in_literal b ≡ true → in_symbol b ≡ true
unfolding in_literal in_symbol is_blank
in_literal_in_symbol b h = grind (arith, nat_tests)

zero_in_symbol : in_symbol 48 ≡ true
unfolding in_symbol is_blank
zero_in_symbol = refl

-- a prefix begins with a byte of symbols
prefix_begins : (text : List ℕ) → is_some (prefix_radix text) ≡ true → begins_with in_symbol text ≡ true
prefix_begins [] h = cc
prefix_begins (a ∷ []) h = cc
prefix_begins (a ∷ b ∷ rest) h =
    ⊎_elim
    (λ zero_digit. ap in_symbol (eqb-true a 48 zero_digit) ∙ zero_in_symbol)
    (λ other. absurd (both_ways _ (ap is_some (cond-false (eqb a 48) (radix_of b) None other)) h))
    (cases_Bool (eqb a 48))

-- and so does a run of digits that has a value
run_begins : (text run rest : List ℕ) (minus : Bool) (radix : ℕ) (value : ℤ) → Longest in_literal text run rest → Some value ≡ value_of minus radix (digits_of run) → begins_with in_symbol text ≡ true
run_begins text [] rest minus radix value l meaning = cc
run_begins text (c ∷ cs) rest minus radix value l meaning =
    ap (begins_with in_symbol) l.split ∙ in_literal_in_symbol c (and_parts (in_literal c) (list_all in_literal cs) l.each).0

digits_begin : (text run rest : List ℕ) (minus : Bool) (radix : ℕ) (value : ℤ) → Longest in_literal (behind_prefix text) run rest → Some value ≡ value_of minus radix (digits_of run) → begins_with in_symbol text ≡ true
digits_begin text run rest minus radix value l meaning =
    ⊎_elim
    (prefix_begins text)
    (λ lacks.
    let plain = subst (λ xs. Longest in_literal xs run rest) (cond-false (is_some (prefix_radix text)) (drop 2 text) text lacks) l in
    run_begins text run rest minus radix value plain meaning)
    (cases_Bool (is_some (prefix_radix text)))

-- what comes after the sign of a literal with a value
minus_digits : (b : ℕ) (tail rest : List ℕ) (value : ℤ) → b ≡ 45 → Literal (b ∷ tail) (Some value) rest → begins_with in_symbol tail ≡ true
minus_digits b tail rest value is l =
    let same = subst (λ c. Literal (c ∷ tail) (Some value) rest) is l in
    digits_begin tail same.run rest true (radix_at tail) value same.longest same.meaning

-- so no literal with a value stands at a lone `-`
pub valued_not_lone : (text : List ℕ) (value : ℤ) (rest : List ℕ) → Literal text (Some value) rest → is_lone_minus text ≡ false
valued_not_lone [] value rest l = refl
valued_not_lone (b ∷ tail) value rest l =
    ⊎_elim
    (λ minus. let goes_on = minus_digits b tail rest value (eqb-true b 45 minus) l in rw (minus, goes_on) refl)
    (λ plain. rw plain refl)
    (cases_Bool (eqb b 45))

-- a byte that begins a symbol and no literal, before any bytes
pub begins_here : (b : ℕ) (rest : List ℕ) → begins_symbol b ≡ true → symbol_here (b ∷ rest) ≡ true
begins_here b rest h = rw h refl

pub plain_here : (text : List ℕ) → begins_with begins_symbol text ≡ true → symbol_here text ≡ true
plain_here text h = rw h refl

or_right : (a b : Bool) → b ≡ true → (a || b) ≡ true
or_right true b h = refl
or_right false b h = h

-- a lone `-` is one, too
pub lone_here : (text : List ℕ) → is_lone_minus text ≡ true → symbol_here text ≡ true
lone_here text h = or_right (begins_with begins_symbol text) (is_lone_minus text) h

count_none : (kind : ℕ → Bool) (text : List ℕ) → begins_with kind text ≡ false → prefix_len kind text ≡ 0
count_none kind [] h = refl
count_none kind (b ∷ rest) h = prefix_len-no kind b rest h

count_some : (kind : ℕ → Bool) (text : List ℕ) → begins_with kind text ≡ true → 0 < prefix_len kind text
count_some kind [] h = cc
count_some kind (b ∷ rest) h = omega (arith, prefix_len-yes kind b rest h)

-- whether the run of symbol bytes after a `-` is empty, as the code asks
run_is_lone : (minus goes_on : Bool) (at end count : ℕ) → minus ≡ true → end ≡ at + 1 + count → (goes_on ≡ false → count ≡ 0) → (goes_on ≡ true → 0 < count) → eqb end (at + 1) ≡ (minus && not goes_on)
run_is_lone minus true at end count h e none some = rw h (ne_eqb end (at + 1) (λ same. let further = some refl in absurd (omega arith)))
run_is_lone minus false at end count h e none some = let stops = none refl in rw h (eq-eqb end (at + 1) (omega arith))

pub lone_minus_at : (bytes : List ℕ) (at end : ℕ) → has_minus (drop at bytes) ≡ true → end ≡ at + 1 + prefix_len in_symbol (drop (at + 1) bytes) → eqb end (at + 1) ≡ is_lone_minus (drop at bytes)
lone_minus_at bytes at end minus e =
    let behind : drop 1 (drop at bytes) ≡ drop (at + 1) bytes = drop-drop 1 at bytes in
    let counted = subst (λ xs. end ≡ at + 1 + prefix_len in_symbol xs) (sym behind) e in
    run_is_lone (has_minus (drop at bytes)) (begins_with in_symbol (drop 1 (drop at bytes))) at end (prefix_len in_symbol (drop 1 (drop at bytes))) minus counted
    (count_none in_symbol (drop 1 (drop at bytes))) (count_some in_symbol (drop 1 (drop at bytes)))

-- a byte that is no `-`
pub other_whole : (text : List ℕ) → has_minus text ≡ false → is_lone_minus text ≡ false
other_whole text h = rw h refl

pub minus_begins : (text : List ℕ) → has_minus text ≡ true → begins_with begins_literal text ≡ true
unfolding begins_literal
minus_begins [] h = cc
minus_begins (b ∷ rest) h = ap begins_literal (eqb-true b 45 h)

-- a symbol still begins here where something else that ends symbols follows the bytes of one
pub symbol_here_moves : (b : ℕ) (bs rest after : List ℕ) → begins_with in_symbol after ≡ false → symbol_here (b ∷ (bs ++ rest)) ≡ true → symbol_here (b ∷ (bs ++ after)) ≡ true
symbol_here_moves b (c ∷ bs) rest after apart h = h
symbol_here_moves b [] rest after apart h =
    ⊎_elim
    (begins_here b after)
    (λ lone. lone_here (b ∷ after) (and_from (eqb b 45) (not (begins_with in_symbol after)) (and_parts (eqb b 45) (not (begins_with in_symbol rest)) lone).0 (ap not apart)))
    (or_cases (begins_symbol b) (is_lone_minus (b ∷ rest)) h)

pub symbol_here_alone : (b : ℕ) (bs rest : List ℕ) → symbol_here (b ∷ (bs ++ rest)) ≡ true → symbol_here (b ∷ bs) ≡ true
symbol_here_alone b (c ∷ bs) rest h = h
symbol_here_alone b [] rest h = symbol_here_moves b [] rest [] refl h
