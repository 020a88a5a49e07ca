-- What the first byte of a spelling says about the classes of bytes.
use Rattle.std.proofs.Common.{◌≡◌, ◌<◌, ◌≤◌, ℕ, List, [], ◌∷◌, Bool, true, false, refl, ap, ◌∙◌, arith, eqb, ⊎_elim, ◌&&◌, not, inl, inr}
use Rattle.std.proofs.lemmas.Bool.{and_parts, or_cases, cases_Bool, cases_eq, both_ways, eqb-true}
use Rattle.std.proofs.lemmas.Bool.Decides.{nat_tests}
use Rattle.isle_base.specs.Literals.{begins_literal, in_literal}
use Rattle.isle_base.specs.Spellings.{in_symbol, begins_symbol, is_lone_minus, symbol_here}
use Rattle.isle_base.specs.Skips.{begins_with, is_blank, opens}

-- a byte of a kind is none that isn't
pub other_byte : (kind : ℕ → Bool) (b c : ℕ) → kind b ≡ true → kind c ≡ false → eqb b c ≡ false
other_byte kind b c has lacks =
    ⊎_elim (λ same. absurd (both_ways (kind b) (ap kind (eqb-true b c same) ∙ lacks) has)) (λ differs. differs) (cases_Bool (eqb b c))

-- a byte that is space, tab, LF or else CR
pub blank_one : (b : ℕ) → ((b ≡ 32 → ⊥) → (b ≡ 9 → ⊥) → (b ≡ 10 → ⊥) → b ≡ 13) → is_blank b ≡ true
unfolding is_blank
blank_one b last =
    elim (cases_eq b 32) [
      | inl space ↦ ap is_blank space
      | inr no_space ↦ elim (cases_eq b 9) [
        | inl tab ↦ ap is_blank tab
        | inr no_tab ↦ elim (cases_eq b 10) [
          | inl feed ↦ ap is_blank feed
          | inr no_feed ↦ ap is_blank (last no_space no_tab no_feed)
        ]
      ]
    ]

digit_begins : (b : ℕ) → 48 ≤ b → b < 58 → begins_literal b ≡ true
unfolding begins_literal
digit_begins b above below = grind (arith, nat_tests)

-- a byte that is `-` or else a digit
pub literal_one : (b : ℕ) → ((b ≡ 45 → ⊥) → (48 ≤ b) × (b < 58)) → begins_literal b ≡ true
unfolding begins_literal
literal_one b digit =
    elim (cases_eq b 45) [
      | inl minus ↦ ap begins_literal minus
      | inr no_minus ↦ digit_begins b (digit no_minus).0 (digit no_minus).1
    ]

-- a byte that is neither
pub literal_else : (b : ℕ) → (b ≡ 45 → ⊥) → (48 ≤ b → 58 ≤ b) → begins_literal b ≡ false
unfolding begins_literal
literal_else b no_minus no_digit = grind (arith, nat_tests)

pub literal_ne_open : (b : ℕ) → begins_literal b ≡ true → eqb b 40 ≡ false
unfolding begins_literal
literal_ne_open b h = other_byte begins_literal b 40 h refl

pub literal_ne_close : (b : ℕ) → begins_literal b ≡ true → eqb b 41 ≡ false
unfolding begins_literal
literal_ne_close b h = other_byte begins_literal b 41 h refl

pub literal_ne_at : (b : ℕ) → begins_literal b ≡ true → eqb b 64 ≡ false
unfolding begins_literal
literal_ne_at b h = other_byte begins_literal b 64 h refl

pub literal_ne_feed : (b : ℕ) → begins_literal b ≡ true → eqb b 12 ≡ false
unfolding begins_literal
literal_ne_feed b h = other_byte begins_literal b 12 h refl

pub literal_ne_semicolon : (b : ℕ) → begins_literal b ≡ true → eqb b 59 ≡ false
unfolding begins_literal
literal_ne_semicolon b h = other_byte begins_literal b 59 h refl

pub literal_not_blank : (b : ℕ) → begins_literal b ≡ true → is_blank b ≡ false
unfolding begins_literal is_blank
literal_not_blank b h =
    let space = other_byte begins_literal b 32 h refl in
    let tab = other_byte begins_literal b 9 h refl in
    let feed = other_byte begins_literal b 10 h refl in
    let return = other_byte begins_literal b 13 h refl in
    rw (space, tab, feed, return) refl

pub symbol_ne_open : (b : ℕ) → in_symbol b ≡ true → eqb b 40 ≡ false
unfolding in_symbol is_blank
symbol_ne_open b h = other_byte in_symbol b 40 h refl

pub symbol_ne_close : (b : ℕ) → in_symbol b ≡ true → eqb b 41 ≡ false
unfolding in_symbol is_blank
symbol_ne_close b h = other_byte in_symbol b 41 h refl

pub symbol_ne_at : (b : ℕ) → in_symbol b ≡ true → eqb b 64 ≡ false
unfolding in_symbol is_blank
symbol_ne_at b h = other_byte in_symbol b 64 h refl

pub symbol_ne_feed : (b : ℕ) → in_symbol b ≡ true → eqb b 12 ≡ false
unfolding in_symbol is_blank
symbol_ne_feed b h = other_byte in_symbol b 12 h refl

pub symbol_ne_semicolon : (b : ℕ) → in_symbol b ≡ true → eqb b 59 ≡ false
unfolding in_symbol is_blank
symbol_ne_semicolon b h = other_byte in_symbol b 59 h refl

pub symbol_not_blank : (b : ℕ) → in_symbol b ≡ true → is_blank b ≡ false
unfolding in_symbol is_blank
symbol_not_blank b h =
    let space = other_byte in_symbol b 32 h refl in
    let tab = other_byte in_symbol b 9 h refl in
    let feed = other_byte in_symbol b 10 h refl in
    let return = other_byte in_symbol b 13 h refl in
    rw (space, tab, feed, return) refl

not_both : (a b : Bool) → (a && not b) ≡ true → b ≡ true → ⊥
not_both true true h e = cc
not_both true false h e = cc
not_both false b h e = cc

pub symbol_not_literal : (b : ℕ) → begins_symbol b ≡ true → begins_literal b ≡ false
unfolding begins_symbol
symbol_not_literal b h =
    ⊎_elim (λ has. absurd (not_both (in_symbol b) (begins_literal b) h has)) (λ lacks. lacks) (cases_Bool (begins_literal b))

-- a byte of none of the other classes begins a symbol
pub symbol_else : (b : ℕ) → is_blank b ≡ false → eqb b 59 ≡ false → eqb b 40 ≡ false → eqb b 41 ≡ false → eqb b 64 ≡ false → eqb b 12 ≡ false → begins_literal b ≡ false → begins_symbol b ≡ true
unfolding begins_symbol in_symbol
symbol_else b blank semicolon opening closing at feed literal = rw (opening, closing, semicolon, at, feed, blank, literal) refl

pub opens_not : (b : ℕ) (rest : List ℕ) → eqb b 40 ≡ false → opens (b ∷ rest) ≡ false
opens_not b [] h = refl
opens_not b (c ∷ rest) h = rw h refl

begins_stays : (b : ℕ) → begins_symbol b ≡ true → in_symbol b ≡ true
unfolding begins_symbol
begins_stays b h = (and_parts (in_symbol b) (not (begins_literal b)) h).0

minus_in_symbol : in_symbol 45 ≡ true
unfolding in_symbol is_blank
minus_in_symbol = refl

-- the first byte of a symbol, a lone `-` too, may stand in one
pub symbol_stays : (b : ℕ) (rest : List ℕ) → symbol_here (b ∷ rest) ≡ true → in_symbol b ≡ true
symbol_stays b rest h =
    ⊎_elim
    (begins_stays b)
    (λ lone. ap in_symbol (eqb-true b 45 (and_parts (eqb b 45) (not (begins_with in_symbol rest)) lone).0) ∙ minus_in_symbol)
    (or_cases (begins_symbol b) (is_lone_minus (b ∷ rest)) h)

pub digit_stays : (b : ℕ) → begins_literal b ≡ true → eqb b 45 ≡ false → in_literal b ≡ true
unfolding begins_literal in_literal
digit_stays b h no_minus = grind (arith, nat_tests)
