-- The position of a later offset is at or after that of an earlier one.
use Rattle.std.proofs.Common.{◌≡◌, ◌+◌, ◌-◌, ◌<◌, ◌≤◌, ◌==◌, ℕ, zero, suc, List, [], ◌∷◌, ◌⊎◌, false, true, ap, arith, inl, inr, map, refl, subst, sym, ◌∙◌}
use Rattle.std.proofs.lemmas.Bool.{cases_Bool, eq-eqb, ne_eqb}
use Rattle.isle_lsp_text.proofs.Places.{p_end, p_more, p_zero}
use Rattle.isle_lsp_text.specs.Positions.{ends_line, position, position_at, position_from, unit_count}
use Rattle.isle_lsp_text.specs.declared.positions.Position.{Position}
use Rattle.isle_lsp_colours.specs.Classes.{modifiers, type_number}
use Rattle.isle_lsp_colours.specs.Tokens.{AreInOrder, Told, column_after, decoded, encoded, origin, start_after, told}
use Rattle.isle_lsp_colours.specs.declared.tokens.Token.{Token}
use Rattle.isle_lsp_text.specs.declared.positions.PositionEncoding.{PositionEncoding}

-- a position is on a later line, or on the same line as far or farther
abbrev pub IsAhead : (before start : Position) → Type 0
IsAhead before start = (before.line < start.line) ⊎ ((before.line ≡ start.line) × (before.unit ≤ start.unit))

from_later_line : (line unit : ℕ) (p : Position) → IsAhead (position (line + 1) 0) p → IsAhead (position line unit) p
from_later_line line unit p (inl h) = inl (omega (arith, h))
from_later_line line unit p (inr h) = inl (omega (arith, h.0))

from_later_unit : (line unit more : ℕ) (p : Position) → IsAhead (position line (unit + more)) p → IsAhead (position line unit) p
from_later_unit line unit more p (inl h) = inl h
from_later_unit line unit more p (inr h) = inr (h.0, omega (arith, h.1))

nil_stays : (enc : PositionEncoding) (line unit n : ℕ) → position_from enc line unit n [] ≡ position line unit
unfolding position_from
nil_stays enc line unit zero = refl
nil_stays enc line unit (suc n) = refl

starts_before : (enc : PositionEncoding) (line unit n : ℕ) (bytes : List ℕ) → IsAhead (position line unit) (position_from enc line unit n bytes)
starts_before enc line unit zero bytes = subst (IsAhead (position line unit)) (sym (p_zero enc line unit bytes)) (inr (refl, omega arith))
starts_before enc line unit (suc n) [] = subst (IsAhead (position line unit)) (sym (nil_stays enc line unit (suc n))) (inr (refl, omega arith))
starts_before enc line unit (suc n) (b ∷ bytes) = elim (cases_Bool (ends_line b bytes)) [
  | inl e ↦ subst (IsAhead (position line unit)) (sym (p_end enc line unit n b bytes e)) (from_later_line line unit _ (starts_before enc (line + 1) 0 n bytes))
  | inr e ↦ subst (IsAhead (position line unit)) (sym (p_more enc line unit n b bytes e)) (from_later_unit line unit (unit_count enc b) _ (starts_before enc line (unit + unit_count enc b) n bytes))
]

goes_on : (enc : PositionEncoding) (line unit n more : ℕ) (bytes : List ℕ) → IsAhead (position_from enc line unit n bytes) (position_from enc line unit (n + more) bytes)
goes_on enc line unit zero more bytes = subst (λ p. IsAhead p (position_from enc line unit (0 + more) bytes)) (sym (p_zero enc line unit bytes)) (starts_before enc line unit (0 + more) bytes)
goes_on enc line unit (suc n) more [] =
    subst (λ p. IsAhead p (position_from enc line unit (suc n + more) [])) (sym (nil_stays enc line unit (suc n))) (starts_before enc line unit (suc n + more) [])
goes_on enc line unit (suc n) more (b ∷ bytes) =
    let on : suc (n + more) ≡ suc n + more = omega arith in
    subst (λ k. IsAhead (position_from enc line unit (suc n) (b ∷ bytes)) (position_from enc line unit k (b ∷ bytes))) on
    (elim (cases_Bool (ends_line b bytes)) [
      | inl e ↦ rw (p_end enc line unit n b bytes e, p_end enc line unit (n + more) b bytes e) (goes_on enc (line + 1) 0 n more bytes)
      | inr e ↦ rw (p_more enc line unit n b bytes e, p_more enc line unit (n + more) b bytes e) (goes_on enc line (unit + unit_count enc b) n more bytes)
    ])

pub later_ahead : (enc : PositionEncoding) (text : List ℕ) (a b : ℕ) → a ≤ b → IsAhead (position_at enc a text) (position_at enc b text)
later_ahead enc text a b h =
    let sum : a + (b - a) ≡ b = omega (arith, h) in
    subst (λ n. IsAhead (position_at enc a text) (position_at enc n text)) sum (goes_on enc 0 0 a (b - a) text)

-- ---- what the numbers tell

same_place : (a b c d : ℕ) → a ≡ c → b ≡ d → position a b ≡ position c d
same_place a b c d p q = ap (λ x. position x b) p ∙ ap (position c) q

told_again : (before start : Position) → IsAhead before start → start_after before (start.line - before.line) (column_after before start) ≡ start
told_again before start (inl h) =
    let apart : (start.line == before.line) ≡ false = ne_eqb _ _ (λ e. omega (arith, e, h)) in
    let later : (start.line - before.line == 0) ≡ false = ne_eqb _ _ (λ e. omega (arith, e, h)) in
    rw (apart, later) (same_place _ _ _ _ (omega (arith, h)) refl)
told_again before start (inr h) =
    let same : (start.line == before.line) ≡ true = eq-eqb _ _ (sym h.0) in
    let none : (start.line - before.line == 0) ≡ true = eq-eqb _ _ (omega (arith, h.0)) in
    rw (same, none) (same_place _ _ _ _ h.0 (omega (arith, h.1)))

told_from : (enc : PositionEncoding) (text : List ℕ) (size last from : ℕ) (ts : List Token) → last ≤ from → AreInOrder size from ts →
    decoded (position_at enc last text) (encoded enc text (position_at enc last text) ts) ≡ map (told enc text) ts
told_from enc text size last from [] h up = refl
told_from enc text size last from (t ∷ ts) h up =
    let before = position_at enc last text in
    let start = position_at enc t.from text in
    let here = told_again before start (later_ahead enc text last t.from (omega (arith, h, up.0))) in
    let more = told_from enc text size t.from t.to ts (omega (arith, up.1)) up.3 in
    let one : Position → List Told = λ p. record {
      start = p;
      length = (position_at enc t.to text).unit - start.unit;
      type = type_number t.class.kind;
      modifiers = modifiers t.class;
    } ∷ decoded p (encoded enc text start ts) in
    ap one here ∙ ap (λ xs. told enc text t ∷ xs) more

pub numbers_told : (enc : PositionEncoding) (text : List ℕ) (size : ℕ) (ts : List Token) → AreInOrder size 0 ts → decoded origin (encoded enc text origin ts) ≡ map (told enc text) ts
numbers_told enc text size ts up =
    let at_start : position_at enc 0 text ≡ origin = p_zero enc 0 0 text in
    subst (λ p. decoded p (encoded enc text p ts) ≡ map (told enc text) ts) at_start (told_from enc text size 0 0 ts (omega arith) up)
