-- The two walks are inverse.
use Rattle.std.proofs.Common.{◌≡◌, ℕ, zero, suc, ◌+◌, ◌-◌, ◌<◌, ◌≤◌, List, [], ◌∷◌, slice_index, true, false, ◌⊎◌, inl, inr, arith, refl, sym, ◌∙◌, ap, subst, nat_lt}
use Rattle.std.proofs.lemmas.Bool.{cases_Bool, lt-ltb, le-ltb}
use Rattle.std.proofs.lemmas.Bool.Decides.{nat_tests}
use Rattle.std.specs.Str.{IsCharBoundary}
use Rattle.isle_lsp_text.specs.declared.positions.Position.{Position}
use Rattle.isle_lsp_text.specs.declared.positions.PositionEncoding.{PositionEncoding}
use Rattle.isle_lsp_text.specs.declared.positions.PositionEncoding.TheVariants.{Utf8, Utf16}
use Rattle.isle_lsp_text.specs.Positions.{ends_line, stops, is_line_end, is_inner, unit_count, position_from, offset_from, IsWhole}
use Rattle.isle_lsp_text.proofs.Places.{p_zero, p_end, p_more, o_nil, o_end, o_stop, o_on, o_line, o_skip}

abbrev place : ℕ → ℕ → Position
place line unit = record { line = line; unit = unit }

same_place : (a b c d : ℕ) → a ≡ c → b ≡ d → place a b ≡ place c d
same_place a b c d p q = ap (λ x. place x b) p ∙ ap (place c) q

-- from here on the walk stays in its line, or comes to a later one, and the way back is as long
abbrev Returns : PositionEncoding → ℕ → ℕ → ℕ → List ℕ → Type 0
Returns enc line unit n bytes =
    ((d : ℕ) × (position_from enc line unit n bytes ≡ place line (unit + d)) × (offset_from enc 0 d bytes ≡ n))
    ⊎ ((m : ℕ) × (u : ℕ) × (position_from enc line unit n bytes ≡ place (line + suc m) u) × (offset_from enc (suc m) u bytes ≡ n))

-- ---- on one byte

outer_counts : (enc : PositionEncoding) (b : ℕ) → is_inner b ≡ false → 0 < unit_count enc b
outer_counts Utf8 b e = omega arith
outer_counts Utf16 b e = rw e (elim (cases_Bool (nat_lt b 240)) [ inl t ↦ rw t (omega arith) | inr t ↦ rw t (omega arith) ])

-- what stops the walk back, and what does not
cut_stops : (enc : PositionEncoding) (unit b : ℕ) → is_inner b ≡ false → unit < unit_count enc b → stops enc unit b ≡ true
cut_stops enc unit b i h =
    let t : nat_lt unit (unit_count enc b) ≡ true = lt-ltb _ _ h in
    elim (cases_Bool (is_line_end b)) [ inl e ↦ rw e refl | inr e ↦ rw (e, i, t) refl ]

whole_goes_on : (enc : PositionEncoding) (unit b : ℕ) → is_line_end b ≡ false → unit_count enc b ≤ unit → stops enc unit b ≡ false
whole_goes_on enc unit b e h =
    let t : nat_lt unit (unit_count enc b) ≡ false = le-ltb _ _ h in
    elim (cases_Bool (is_inner b)) [ inl i ↦ rw (e, i) refl | inr i ↦ rw (e, i, t) refl ]

back_on : (enc : PositionEncoding) (d n b : ℕ) (bytes : List ℕ) → is_line_end b ≡ false → offset_from enc 0 d bytes ≡ n → offset_from enc 0 (unit_count enc b + d) (b ∷ bytes) ≡ suc n
back_on enc d n b bytes e h =
    let z : unit_count enc b + d - unit_count enc b ≡ d = omega arith in
    o_on enc (unit_count enc b + d) b bytes (whole_goes_on enc _ b e (omega arith)) ∙ ap (λ u. suc (offset_from enc 0 u bytes)) z ∙ ap suc h

-- a CR that ends no line has a LF behind it
lone_cr : (b : ℕ) (bytes : List ℕ) → ends_line b bytes ≡ false → is_line_end b ≡ true → b ≡ 13
lone_cr b bytes e l = grind (arith, nat_tests)

lone_lf : (b : ℕ) (bytes : List ℕ) → ends_line b bytes ≡ false → is_line_end b ≡ true → slice_index bytes 0 ≡ 10
lone_lf b bytes e l = grind (arith, nat_tests)

cut_ends_no_line : (b : ℕ) (bytes : List ℕ) → ends_line b bytes ≡ true → b ≡ 13 → slice_index bytes 0 ≡ 10 → ⊥
cut_ends_no_line b bytes e c l = grind (arith, nat_tests)

end_is_outer : (b : ℕ) → is_line_end b ≡ true → is_inner b ≡ false
end_is_outer b e = grind (arith, nat_tests)

-- where the walk stops no character is cut
stop_is_outer : (enc : PositionEncoding) (unit b : ℕ) → stops enc unit b ≡ true → is_inner b ≡ false
stop_is_outer enc unit b s =
    elim (cases_Bool (is_line_end b)) [
      | inl e ↦ end_is_outer b e
      | inr e ↦
          elim (cases_Bool (is_inner b)) [
            | inl i ↦ let q = rw (e, i) at s in absurd (cc)
            | inr i ↦ i
          ]
    ]

no_end : (enc : PositionEncoding) (unit b : ℕ) → stops enc unit b ≡ false → is_line_end b ≡ false
no_end enc unit b s = elim (cases_Bool (is_line_end b)) [ inl e ↦ let q = rw e at s in absurd (cc) | inr e ↦ e ]

no_cr : (b : ℕ) → is_line_end b ≡ false → b ≡ 13 → ⊥
no_cr b e c = grind (arith, nat_tests)

stops_at_lf : (enc : PositionEncoding) (d n : ℕ) (bytes : List ℕ) → slice_index bytes 0 ≡ 10 → offset_from enc 0 d bytes ≡ n → n ≡ 0
stops_at_lf enc d n [] z h = absurd (omega (arith, z))
stops_at_lf enc d n (c ∷ bytes) z h = sym h ∙ o_end enc d c bytes (let q : c ≡ 10 = z in rw q refl)

whole_tail : (n b : ℕ) (bytes : List ℕ) → IsWhole (b ∷ bytes) (suc n) → IsWhole bytes n
whole_tail n b bytes w = (omega (arith, w.0), w.1, λ m q. w.2 (suc m) (ap suc q))

start_here : (enc : PositionEncoding) (bytes : List ℕ) → IsWhole bytes 0 → offset_from enc 0 0 bytes ≡ 0
start_here enc [] w = o_nil enc 0 0
start_here enc (b ∷ bytes) w =
    elim (cases_Bool (is_line_end b)) [
      | inl e ↦ o_end enc 0 b bytes e
      | inr e ↦ o_stop enc 0 b bytes (cut_stops enc 0 b w.1 (outer_counts enc b w.1))
    ]

close : (enc : PositionEncoding) (d n b : ℕ) (bytes : List ℕ) → IsWhole (b ∷ bytes) (suc n) → ends_line b bytes ≡ false → offset_from enc 0 d bytes ≡ n → offset_from enc 0 (unit_count enc b + d) (b ∷ bytes) ≡ suc n
close enc d n b bytes w e h =
    elim (cases_Bool (is_line_end b)) [
      | inl l ↦
          let lf = lone_lf b bytes e l in
          let z = stops_at_lf enc d n bytes lf h in
          absurd (w.2 0 (ap suc z) (lone_cr b bytes e l) (ap (slice_index bytes) z ∙ lf))
      | inr l ↦ back_on enc d n b bytes l h
    ]

after_end : (enc : PositionEncoding) (line unit n b : ℕ) (bytes : List ℕ) → ends_line b bytes ≡ true → Returns enc (line + 1) 0 n bytes → Returns enc line unit (suc n) (b ∷ bytes)
after_end enc line unit n b bytes e (inl q) =
    inr (0, q.0, p_end enc line unit n b bytes e ∙ q.1 ∙ same_place _ _ _ _ (omega arith) (omega arith), o_line enc 0 q.0 b bytes e ∙ ap suc q.2)
after_end enc line unit n b bytes e (inr q) =
    inr (suc q.0, q.1, p_end enc line unit n b bytes e ∙ q.2 ∙ same_place _ _ _ _ (omega arith) refl, o_line enc (suc q.0) q.1 b bytes e ∙ ap suc q.3)

after_more : (enc : PositionEncoding) (line unit n b : ℕ) (bytes : List ℕ) → IsWhole (b ∷ bytes) (suc n) → ends_line b bytes ≡ false → Returns enc line (unit + unit_count enc b) n bytes → Returns enc line unit (suc n) (b ∷ bytes)
after_more enc line unit n b bytes w e (inl q) =
    inl (unit_count enc b + q.0, p_more enc line unit n b bytes e ∙ q.1 ∙ same_place _ _ _ _ refl (omega arith), close enc q.0 n b bytes w e q.2)
after_more enc line unit n b bytes w e (inr q) =
    inr (q.0, q.1, p_more enc line unit n b bytes e ∙ q.2, o_skip enc q.0 q.1 b bytes e ∙ ap suc q.3)

returns : (enc : PositionEncoding) (line unit n : ℕ) (bytes : List ℕ) → IsWhole bytes n → Returns enc line unit n bytes
returns enc line unit zero bytes w = inl (0, p_zero enc line unit bytes ∙ same_place _ _ _ _ refl (omega arith), start_here enc bytes w)
returns enc line unit (suc n) [] w = absurd (omega (arith, w.0))
returns enc line unit (suc n) (b ∷ bytes) w =
    let tail = whole_tail n b bytes w in
    elim (cases_Bool (ends_line b bytes)) [
      | inl e ↦ after_end enc line unit n b bytes e (returns enc (line + 1) 0 n bytes tail)
      | inr e ↦ after_more enc line unit n b bytes w e (returns enc line (unit + unit_count enc b) n bytes tail)
    ]

pub inverse_law : (enc : PositionEncoding) (bytes : List ℕ) (n : ℕ) → IsWhole bytes n → offset_from enc (position_from enc 0 0 n bytes).line (position_from enc 0 0 n bytes).unit bytes ≡ n
inverse_law enc bytes n w =
    elim (returns enc 0 0 n bytes w) [
      | inl q ↦
          let z : 0 + q.0 ≡ q.0 = omega arith in
          ap (λ p. offset_from enc p.line p.unit bytes) q.1 ∙ ap (λ u. offset_from enc 0 u bytes) z ∙ q.2
      | inr q ↦
          let z : 0 + suc q.0 ≡ suc q.0 = omega arith in
          ap (λ p. offset_from enc p.line p.unit bytes) q.2 ∙ ap (λ l. offset_from enc l q.1 bytes) z ∙ q.3
    ]

-- ---- the offset of a place cuts nothing

whole_zero : (bytes : List ℕ) → is_inner (slice_index bytes 0) ≡ false → IsWhole bytes 0
whole_zero bytes h = (omega arith, h, λ m q. absurd (cc))

uncut : (b n : ℕ) (bytes : List ℕ) → IsWhole bytes n → (n ≡ 0 → b ≡ 13 → slice_index bytes 0 ≡ 10 → ⊥) → (m : ℕ) → suc n ≡ suc m → slice_index (b ∷ bytes) m ≡ 13 → slice_index bytes n ≡ 10 → ⊥
uncut b n bytes w h zero q c l = let z : n ≡ 0 = cc in h z c (ap (slice_index bytes) (sym z) ∙ l)
uncut b n bytes w h (suc m) q c l = w.2 m (cc) c l

whole_suc : (b n : ℕ) (bytes : List ℕ) → IsWhole bytes n → (n ≡ 0 → b ≡ 13 → slice_index bytes 0 ≡ 10 → ⊥) → IsWhole (b ∷ bytes) (suc n)
whole_suc b n bytes w h = (omega (arith, w.0), w.1, uncut b n bytes w h)

skips_some : (enc : PositionEncoding) (line unit : ℕ) (bytes : List ℕ) → offset_from enc (suc line) unit bytes ≡ 0 → slice_index bytes 0 ≡ 10 → ⊥
skips_some enc line unit [] z l = omega (arith, l)
skips_some enc line unit (c ∷ bytes) z l =
    elim (cases_Bool (ends_line c bytes)) [
      | inl e ↦ let q = sym (o_line enc line unit c bytes e) ∙ z in cc
      | inr e ↦ let q = sym (o_skip enc line unit c bytes e) ∙ z in cc
    ]

pub whole_law : (enc : PositionEncoding) (bytes : List ℕ) (line unit : ℕ) → IsWhole bytes (offset_from enc line unit bytes)
whole_law enc [] line unit = subst (IsWhole []) (sym (o_nil enc line unit)) (whole_zero [] refl)
whole_law enc (b ∷ bytes) zero unit =
    elim (cases_Bool (stops enc unit b)) [
      | inl s ↦ subst (IsWhole (b ∷ bytes)) (sym (o_stop enc unit b bytes s)) (whole_zero (b ∷ bytes) (stop_is_outer enc unit b s))
      | inr s ↦ subst (IsWhole (b ∷ bytes)) (sym (o_on enc unit b bytes s)) (whole_suc b _ bytes (whole_law enc bytes 0 (unit - unit_count enc b)) (λ z c l. no_cr b (no_end enc unit b s) c))
    ]
whole_law enc (b ∷ bytes) (suc line) unit =
    elim (cases_Bool (ends_line b bytes)) [
      | inl e ↦ subst (IsWhole (b ∷ bytes)) (sym (o_line enc line unit b bytes e)) (whole_suc b _ bytes (whole_law enc bytes line unit) (λ z c l. cut_ends_no_line b bytes e c l))
      | inr e ↦ subst (IsWhole (b ∷ bytes)) (sym (o_skip enc line unit b bytes e)) (whole_suc b _ bytes (whole_law enc bytes (suc line) unit) (λ z c l. skips_some enc line unit bytes z l))
    ]

pub whole_boundary : (bytes : List ℕ) (n : ℕ) → IsWhole bytes n → IsCharBoundary bytes n
whole_boundary bytes n w = (w.0, λ l h. grind (arith, nat_tests, w.1))
