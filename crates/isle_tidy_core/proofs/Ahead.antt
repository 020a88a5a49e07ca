-- The `)` that follow on a line, by the bytes ahead.
use Rattle.std.proofs.Common.{◌≡◌, ◌<◌, ◌+◌, ℕ, suc, ◌⊎◌, inl, inr, ⊎_elim, List, [], ◌∷◌, ◌++◌, Bool, true, false, ◌&&◌, ◌||◌, drop, get_or, length, cond, refl, sym, ap, subst, ◌∙◌, eqb, append-nil}
use Rattle.std.proofs.lemmas.Bool.{cond-true, cond-false, and_parts, cases_Bool, both_ways, eqb-true}
use Rattle.std.proofs.lemmas.List.{drop_more}
use Rattle.std.specs.List.{list_all}
use Rattle.isle_base.specs.Skips.{begins_with, is_blank}
use Rattle.isle_tidy_layout.specs.declared.entries.Gap.{Gap}
use Rattle.isle_tidy_layout.specs.declared.entries.Gap.TheVariants.{Beside, Tabbed, Below}
use Rattle.isle_tidy_layout.specs.Entries.{Lexeme, opening, closing, at_sign, atom, line_comment, block_comment, Entry}
use Rattle.isle_tidy_core.specs.Fitting.{is_below}
use Rattle.isle_tidy_core.specs.Grammar.{Spells, SpellsEntries, gap_of}
use Rattle.isle_tidy_layout.specs.Placing.{is_beside, is_closing, closings}
use Rattle.isle_tidy_core.proofs.Spelt.{feed_below, return_below}
use Rattle.isle_tidy_core.proofs.Unique.{Spells-unique}

abbrev pub ahead : List ℕ → ℕ
ahead [] = 0
ahead (b ∷ bs) = cond (eqb b 41) (suc (ahead bs)) (cond (eqb b 32 || eqb b 9) (ahead bs) 0)

pub ahead_closing : (text : List ℕ) (at : ℕ) → at < length text → eqb (get_or text at 0) 41 ≡ true → ahead (drop at text) ≡ suc (ahead (drop (at + 1) text))
ahead_closing text at short is = ap ahead (drop_more text at 0 short) ∙ cond-true (eqb (get_or text at 0) 41) _ _ is

pub ahead_blank : (text : List ℕ) (at : ℕ) → at < length text → eqb (get_or text at 0) 41 ≡ false → (eqb (get_or text at 0) 32 || eqb (get_or text at 0) 9) ≡ true → ahead (drop at text) ≡ ahead (drop (at + 1) text)
ahead_blank text at short other is =
    ap ahead (drop_more text at 0 short) ∙ cond-false (eqb (get_or text at 0) 41) _ _ other ∙ cond-true (eqb (get_or text at 0) 32 || eqb (get_or text at 0) 9) _ _ is

pub ahead_else : (text : List ℕ) (at : ℕ) → at < length text → eqb (get_or text at 0) 41 ≡ false → (eqb (get_or text at 0) 32 || eqb (get_or text at 0) 9) ≡ false → ahead (drop at text) ≡ 0
ahead_else text at short other no_blank =
    ap ahead (drop_more text at 0 short) ∙ cond-false (eqb (get_or text at 0) 41) _ _ other ∙ cond-false (eqb (get_or text at 0) 32 || eqb (get_or text at 0) 9) _ _ no_blank

below_beside : (gap : Gap) → is_below gap ≡ true → is_beside gap ≡ false
below_beside (Beside width) h = cc
below_beside (Tabbed width) h = cc
below_beside (Below empty column) h = refl

-- what blanks, and then this text, are ahead, where the gap before is on the line
abbrev AheadOf : Gap → List ℕ → List ℕ → Type 0
AheadOf gap blanks from = ahead (blanks ++ from) ≡ cond (is_beside (gap_of gap blanks)) (ahead from) 0

below_ahead : (gap : Gap) (b : ℕ) (bs from : List ℕ) → is_below (gap_of gap (b ∷ bs)) ≡ true → ahead ((b ∷ bs) ++ from) ≡ 0 → AheadOf gap (b ∷ bs) from
below_ahead gap b bs from below none = none ∙ sym (cond-false (is_beside (gap_of gap (b ∷ bs))) (ahead from) 0 (below_beside (gap_of gap (b ∷ bs)) below))

-- space, tab, LF or CR
first_two : (a b c d : Bool) → (a || b || c || d) ≡ false → (a || b) ≡ false
first_two true b c d h = cc
first_two false true c d h = cc
first_two false false c d h = refl

four : (a b c d : Bool) → (a || b || c || d) ≡ true → (a ≡ true) ⊎ ((b ≡ true) ⊎ ((c ≡ true) ⊎ (d ≡ true)))
four true b c d h = inl refl
four false true c d h = inr (inl refl)
four false false true d h = inr (inr (inl refl))
four false false false d h = inr (inr (inr h))

blank_cases : (b : ℕ) → is_blank b ≡ true → (b ≡ 32) ⊎ ((b ≡ 9) ⊎ ((b ≡ 10) ⊎ (b ≡ 13)))
unfolding is_blank
blank_cases b h =
    ⊎_elim (λ e. inl (eqb-true b 32 e)) (λ r. inr (⊎_elim (λ e. inl (eqb-true b 9 e)) (λ q. inr (⊎_elim (λ e. inl (eqb-true b 10 e)) (λ e. inr (eqb-true b 13 e)) q)) r))
    (four (eqb b 32) (eqb b 9) (eqb b 10) (eqb b 13) h)

space_beside : (gap : Gap) → is_beside gap ≡ true → (bs from : List ℕ) → ((next : Gap) → is_beside next ≡ true → AheadOf next bs from) → AheadOf gap (32 ∷ bs) from
space_beside (Beside width) h bs from more = more (Beside (suc width)) refl
space_beside (Tabbed width) h bs from more = more (Tabbed (suc width)) refl
space_beside (Below empty column) h bs from more = cc

tab_beside : (gap : Gap) → is_beside gap ≡ true → (bs from : List ℕ) → ((next : Gap) → is_beside next ≡ true → AheadOf next bs from) → AheadOf gap (9 ∷ bs) from
tab_beside (Beside width) h bs from more = more (Tabbed (suc width)) refl
tab_beside (Tabbed width) h bs from more = more (Tabbed (suc width)) refl
tab_beside (Below empty column) h bs from more = cc

ahead_blanks : (blanks from : List ℕ) (gap : Gap) → is_beside gap ≡ true → list_all is_blank blanks ≡ true → AheadOf gap blanks from
ahead_blanks [] from gap h all = sym (cond-true (is_beside gap) (ahead from) 0 h)
ahead_blanks (b ∷ bs) from gap h all =
    let parts = and_parts (is_blank b) (list_all is_blank bs) all in
    let more = λ (next : Gap) (k : is_beside next ≡ true). ahead_blanks bs from next k parts.1 in
    ⊎_elim (λ e. subst (λ c. AheadOf gap (c ∷ bs) from) (sym e) (space_beside gap h bs from more))
    (λ r. ⊎_elim (λ e. subst (λ c. AheadOf gap (c ∷ bs) from) (sym e) (tab_beside gap h bs from more))
    (λ q. ⊎_elim (λ e. subst (λ c. AheadOf gap (c ∷ bs) from) (sym e) (below_ahead gap 10 bs from (feed_below gap bs) refl))
    (λ e. subst (λ c. AheadOf gap (c ∷ bs) from) (sym e) (below_ahead gap 13 bs from (return_below gap bs (begins_with (λ c. eqb c 10) bs) refl) refl)) q) r)
    (blank_cases b parts.0)

-- behind the blanks a lexeme stands
blank_not : (b : ℕ) → is_blank b ≡ false → (eqb b 32 || eqb b 9) ≡ false
unfolding is_blank
blank_not b h = first_two (eqb b 32) (eqb b 9) (eqb b 10) (eqb b 13) h

closing_only : (x : Lexeme) (rest after : List ℕ) → Spells x (41 ∷ rest) after → is_closing x ≡ true
closing_only x rest after s = ap is_closing (Spells-unique x closing (41 ∷ rest) after rest s refl).0

none_ahead : (x : Lexeme) (from after : List ℕ) → begins_with is_blank from ≡ false → Spells x from after → is_closing x ≡ false → ahead from ≡ 0
none_ahead x [] after h s other = refl
none_ahead x (b ∷ rest) after h s other =
    ⊎_elim (λ is. absurd (both_ways (is_closing x) other (closing_only x rest after (subst (λ c. Spells x (c ∷ rest) after) (eqb-true b 41 is) s))))
    (λ differs. cond-false (eqb b 41) (suc (ahead rest)) (cond (eqb b 32 || eqb b 9) (ahead rest) 0) differs ∙ cond-false (eqb b 32 || eqb b 9) (ahead rest) 0 (blank_not b h))
    (cases_Bool (eqb b 41))

closing_here : (x : Lexeme) (from after : List ℕ) → Spells x from after → is_closing x ≡ true → from ≡ 41 ∷ after
closing_here closing from after s is = s
closing_here opening from after s is = cc
closing_here at_sign from after s is = cc
closing_here (atom bs) from after s is = cc
closing_here (line_comment bs) from after s is = cc
closing_here (block_comment bs) from after s is = cc

joined : (b c : Bool) (n m : ℕ) → (c ≡ true → m ≡ suc n) → (c ≡ false → m ≡ 0) → cond (b && c) (suc n) 0 ≡ cond b m 0
joined true true n m f g = sym (f refl)
joined true false n m f g = sym (g refl)
joined false c n m f g = refl

nothing_ahead : (b : Bool) → cond b (ahead []) 0 ≡ 0
nothing_ahead true = refl
nothing_ahead false = refl

pub ahead_closings : (es : List Entry) (gap : Gap) (text : List ℕ) → is_beside gap ≡ true → SpellsEntries gap es text → closings es ≡ ahead text
ahead_closings [] gap text h s =
    sym (ap ahead (sym (append-nil text)) ∙ ahead_blanks text [] gap h s ∙ nothing_ahead (is_beside (gap_of gap text)))
ahead_closings (e ∷ es) gap text h s =
    let more = ahead_closings es (Beside 0) s.2 refl s.6 in
    ap (λ g. cond (is_beside g && is_closing e.lexeme) (suc (closings es)) 0) s.4
    ∙ joined (is_beside (gap_of gap s.0)) (is_closing e.lexeme) (closings es) (ahead s.1)
    (λ is. ap ahead (closing_here e.lexeme s.1 s.2 s.5 is) ∙ ap suc (sym more))
    (λ other. none_ahead e.lexeme s.1 s.2 s.3.stops s.5 other)
    ∙ sym (ahead_blanks s.0 s.1 gap h s.3.each) ∙ ap ahead (sym s.3.split)
