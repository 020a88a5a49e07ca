-- The two walks, one byte at a time.
use Rattle.std.proofs.Common.{◌≡◌, ℕ, min, zero, suc, ◌+◌, ◌-◌, ◌*◌, ◌<◌, ◌≤◌, List, [], ◌∷◌, length, drop, get_or, true, false, inl, inr, arith, refl, sym, ◌∙◌, ap, add-one, drop-cons}
use Rattle.std.proofs.lemmas.Bool.{cases_Bool, cases_lt}
use Rattle.std.proofs.lemmas.Grind.{common_steps}
use Rattle.std.proofs.lemmas.Bool.Decides.{nat_tests}
use Rattle.isle_lsp_text.specs.Positions.{ends_line, stops, is_line_end, unit_count, position, position_at, position_from, offset_from, IsPlace}
use Rattle.isle_lsp_text.specs.declared.positions.PositionEncoding.{PositionEncoding}
use Rattle.isle_lsp_text.specs.declared.positions.PositionEncoding.TheVariants.{Utf8, Utf16}
use Rattle.isle_lsp_text.specs.declared.positions.Place.{Place}

-- ---- to a place

pub p_zero : (enc : PositionEncoding) (line unit : ℕ) (bytes : List ℕ) → position_from enc line unit 0 bytes ≡ record { line = line; unit = unit }
unfolding position_from
p_zero enc line unit bytes = refl

pub p_end : (enc : PositionEncoding) (line unit n b : ℕ) (bytes : List ℕ) → ends_line b bytes ≡ true → position_from enc line unit (suc n) (b ∷ bytes) ≡ position_from enc (line + 1) 0 n bytes
unfolding position_from
p_end enc line unit n b bytes e = rw e refl

pub p_more : (enc : PositionEncoding) (line unit n b : ℕ) (bytes : List ℕ) → ends_line b bytes ≡ false → position_from enc line unit (suc n) (b ∷ bytes) ≡ position_from enc line (unit + unit_count enc b) n bytes
unfolding position_from
p_more enc line unit n b bytes e = rw e refl

-- ---- to an offset

pub o_nil : (enc : PositionEncoding) (line unit : ℕ) → offset_from enc line unit [] ≡ 0
unfolding offset_from
o_nil enc zero unit = refl
o_nil enc (suc line) unit = refl

pub o_end : (enc : PositionEncoding) (unit b : ℕ) (bytes : List ℕ) → is_line_end b ≡ true → offset_from enc 0 unit (b ∷ bytes) ≡ 0
unfolding offset_from
o_end enc unit b bytes e = rw e refl

pub o_stop : (enc : PositionEncoding) (unit b : ℕ) (bytes : List ℕ) → stops enc unit b ≡ true → offset_from enc 0 unit (b ∷ bytes) ≡ 0
unfolding offset_from
o_stop enc unit b bytes h = rw h refl

pub o_on : (enc : PositionEncoding) (unit b : ℕ) (bytes : List ℕ) → stops enc unit b ≡ false → offset_from enc 0 unit (b ∷ bytes) ≡ suc (offset_from enc 0 (unit - unit_count enc b) bytes)
unfolding offset_from
o_on enc unit b bytes h = rw h refl

pub o_line : (enc : PositionEncoding) (line unit b : ℕ) (bytes : List ℕ) → ends_line b bytes ≡ true → offset_from enc (suc line) unit (b ∷ bytes) ≡ suc (offset_from enc line unit bytes)
unfolding offset_from
o_line enc line unit b bytes e = rw e refl

pub o_skip : (enc : PositionEncoding) (line unit b : ℕ) (bytes : List ℕ) → ends_line b bytes ≡ false → offset_from enc (suc line) unit (b ∷ bytes) ≡ suc (offset_from enc (suc line) unit bytes)
unfolding offset_from
o_skip enc line unit b bytes e = rw e refl

-- ---- the same at an index

pub drop_here : (bytes : List ℕ) (i : ℕ) → i < length bytes → drop i bytes ≡ get_or bytes i 0 ∷ drop (i + 1) bytes
drop_here bytes i h = rw (add-one, drop-cons bytes i 0) refl

module _ (enc : PositionEncoding) (bytes : List ℕ) (i : ℕ) (h : i < length bytes) where
  pub place_end : (line unit n : ℕ) → ends_line (get_or bytes i 0) (drop (i + 1) bytes) ≡ true → position_from enc line unit (suc n) (drop i bytes) ≡ position_from enc (line + 1) 0 n (drop (i + 1) bytes)
  place_end line unit n e = ap (position_from enc line unit (suc n)) (drop_here bytes i h) ∙ p_end enc line unit n _ _ e

  pub place_more : (line unit n : ℕ) → ends_line (get_or bytes i 0) (drop (i + 1) bytes) ≡ false → position_from enc line unit (suc n) (drop i bytes) ≡ position_from enc line (unit + unit_count enc (get_or bytes i 0)) n (drop (i + 1) bytes)
  place_more line unit n e = ap (position_from enc line unit (suc n)) (drop_here bytes i h) ∙ p_more enc line unit n _ _ e

  -- what the walk back does here, with what is left of it
  on : (line unit : ℕ) (o rest : ℕ) → o ≡ i + offset_from enc line unit (drop i bytes) → offset_from enc line unit (get_or bytes i 0 ∷ drop (i + 1) bytes) ≡ rest → o ≡ i + rest
  on line unit o rest inv step = inv ∙ ap (λ k. i + k) (ap (offset_from enc line unit) (drop_here bytes i h) ∙ step)

  further : (o n : ℕ) → o ≡ i + suc n → o ≡ i + 1 + n
  further o n e = omega arith

  pub stop : (unit o : ℕ) → o ≡ i + offset_from enc 0 unit (drop i bytes) → stops enc unit (get_or bytes i 0) ≡ true → o ≡ i
  stop unit o inv h = let r = on 0 unit o 0 inv (o_stop enc unit _ _ h) in omega (arith, r)

  pub go_on : (unit o : ℕ) → o ≡ i + offset_from enc 0 unit (drop i bytes) → stops enc unit (get_or bytes i 0) ≡ false → o ≡ i + 1 + offset_from enc 0 (unit - unit_count enc (get_or bytes i 0)) (drop (i + 1) bytes)
  go_on unit o inv h = further o _ (on 0 unit o _ inv (o_on enc unit _ _ h))

  pub go_line : (line unit o : ℕ) → 0 < line → o ≡ i + offset_from enc line unit (drop i bytes) → ends_line (get_or bytes i 0) (drop (i + 1) bytes) ≡ true → o ≡ i + 1 + offset_from enc (line - 1) unit (drop (i + 1) bytes)
  go_line zero unit o pos inv e = absurd (omega arith)
  go_line (suc line) unit o pos inv e =
      let z : suc line - 1 ≡ line = omega arith in
      rw z (further o _ (on (suc line) unit o _ inv (o_line enc line unit _ _ e)))

  pub go_skip : (line unit o : ℕ) → 0 < line → o ≡ i + offset_from enc line unit (drop i bytes) → ends_line (get_or bytes i 0) (drop (i + 1) bytes) ≡ false → o ≡ i + 1 + offset_from enc line unit (drop (i + 1) bytes)
  go_skip zero unit o pos inv e = absurd (omega arith)
  go_skip (suc line) unit o pos inv e = further o _ (on (suc line) unit o _ inv (o_skip enc line unit _ _ e))

pub at_end : (enc : PositionEncoding) (bytes : List ℕ) (i line unit o : ℕ) → length bytes ≤ i → o ≡ i + offset_from enc line unit (drop i bytes) → o ≡ i
at_end enc bytes i line unit o h inv =
    let z : drop i bytes ≡ [] = grind (arith, common_steps) in
    let r : o ≡ i + 0 = inv ∙ ap (λ k. i + k) (ap (offset_from enc line unit) z ∙ o_nil enc line unit) in
    omega arith

-- ---- one walk after another

p_nil : (enc : PositionEncoding) (line unit n : ℕ) → position_from enc line unit n [] ≡ position line unit
unfolding position_from
p_nil enc line unit zero = refl
p_nil enc line unit (suc n) = refl

pub composes : (enc : PositionEncoding) (line unit a k : ℕ) (bytes : List ℕ) → position_from enc line unit (k + a) bytes ≡ position_from enc (position_from enc line unit a bytes).line (position_from enc line unit a bytes).unit k (drop a bytes)
composes enc line unit zero k bytes =
    let z : k + 0 ≡ k = omega arith in
    rw z (sym (ap (λ p. position_from enc p.line p.unit k bytes) (p_zero enc line unit bytes)))
composes enc line unit (suc a) k [] = p_nil enc line unit (k + suc a) ∙ sym (ap (λ p. position_from enc p.line p.unit k []) (p_nil enc line unit (suc a)) ∙ p_nil enc line unit k)
composes enc line unit (suc a) k (b ∷ bytes) =
    let z : k + suc a ≡ suc (k + a) = omega arith in
    ap (λ n. position_from enc line unit n (b ∷ bytes)) z ∙ elim (cases_Bool (ends_line b bytes)) [
      | inl e ↦ p_end enc line unit (k + a) b bytes e ∙ composes enc (line + 1) 0 a k bytes ∙ sym (ap (λ p. position_from enc p.line p.unit k (drop a bytes)) (p_end enc line unit a b bytes e))
      | inr e ↦ p_more enc line unit (k + a) b bytes e ∙ composes enc line (unit + unit_count enc b) a k bytes ∙ sym (ap (λ p. position_from enc p.line p.unit k (drop a bytes)) (p_more enc line unit a b bytes e))
    ]

few_units : (enc : PositionEncoding) (b : ℕ) → unit_count enc b ≤ 2
few_units Utf8 b = omega arith
few_units Utf16 b = grind (arith, nat_tests)

-- a line has a byte at least, and a unit half a byte
pub few_lines : (enc : PositionEncoding) (line unit n : ℕ) (bytes : List ℕ) → (position_from enc line unit n bytes).line ≤ line + n
few_lines enc line unit zero bytes = rw (p_zero enc line unit bytes) (omega arith)
few_lines enc line unit (suc n) [] = rw (p_nil enc line unit (suc n)) (omega arith)
few_lines enc line unit (suc n) (b ∷ bytes) =
    elim (cases_Bool (ends_line b bytes)) [
      | inl e ↦ rw (p_end enc line unit n b bytes e) (omega (arith, few_lines enc (line + 1) 0 n bytes))
      | inr e ↦ rw (p_more enc line unit n b bytes e) (omega (arith, few_lines enc line (unit + unit_count enc b) n bytes))
    ]

pub few_units_on : (enc : PositionEncoding) (line unit n : ℕ) (bytes : List ℕ) → (position_from enc line unit n bytes).unit ≤ unit + 2 * n
few_units_on enc line unit zero bytes = rw (p_zero enc line unit bytes) (omega arith)
few_units_on enc line unit (suc n) [] = rw (p_nil enc line unit (suc n)) (omega arith)
few_units_on enc line unit (suc n) (b ∷ bytes) =
    elim (cases_Bool (ends_line b bytes)) [
      | inl e ↦ rw (p_end enc line unit n b bytes e) (omega (arith, few_units_on enc (line + 1) 0 n bytes))
      | inr e ↦ rw (p_more enc line unit n b bytes e) (omega (arith, few_units_on enc line (unit + unit_count enc b) n bytes, few_units enc b))
    ]

-- what a walk from a place has to come to
pub from_place : (enc : PositionEncoding) (text : List ℕ) (place : Place) (offset : ℕ) → IsPlace enc text place → place.offset ≤ offset → (k : ℕ) → k + place.offset ≡ offset → position_at enc offset text ≡ position_from enc place.position.line place.position.unit k (drop place.offset text)
from_place enc text place offset is h k e =
    ap (λ n. position_from enc 0 0 n text) (sym e) ∙ composes enc 0 0 place.offset k text ∙ sym (ap (λ p. position_from enc p.line p.unit k (drop place.offset text)) is.position)

pub place_lines : (enc : PositionEncoding) (text : List ℕ) (place : Place) → IsPlace enc text place → place.position.line ≤ place.offset
place_lines enc text place is = rw is.position (let f = few_lines enc 0 0 place.offset text in omega (arith, f))

pub place_units : (enc : PositionEncoding) (text : List ℕ) (place : Place) → IsPlace enc text place → place.position.unit ≤ 2 * place.offset
place_units enc text place is = rw is.position (let f = few_units_on enc 0 0 place.offset text in omega (arith, f))

pub start_place : (enc : PositionEncoding) (text : List ℕ) → IsPlace enc text record { offset = 0; position = position 0 0 }
start_place enc text = record { within = omega arith; position = sym (p_zero enc 0 0 text) }

-- past the end of the text nothing changes
past_end : (enc : PositionEncoding) (line unit n : ℕ) (bytes : List ℕ) → position_from enc line unit (length bytes) bytes ≡ position_from enc line unit (n + length bytes) bytes
past_end enc line unit n bytes =
    let z : drop (length bytes) bytes ≡ [] = grind (arith, common_steps) in
    sym (composes enc line unit (length bytes) n bytes ∙ ap (position_from enc (position_from enc line unit (length bytes) bytes).line (position_from enc line unit (length bytes) bytes).unit n) z ∙ p_nil enc _ _ n)

pub clamped : (enc : PositionEncoding) (text : List ℕ) (offset : ℕ) → position_at enc (min offset (length text)) text ≡ position_at enc offset text
clamped enc text offset =
    elim (cases_lt offset (length text)) [
      | inl l ↦ let z : min offset (length text) ≡ offset = omega arith in ap (λ n. position_at enc n text) z
      | inr g ↦
          let z : min offset (length text) ≡ length text = omega arith in
          let e : offset - length text + length text ≡ offset = omega arith in
          ap (λ n. position_at enc n text) z ∙ past_end enc 0 0 (offset - length text) text ∙ ap (λ n. position_at enc n text) e
    ]
