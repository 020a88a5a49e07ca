-- What a text spells are entries.
use Rattle.std.proofs.Common.{◌≡◌, ℕ, ◌⊎◌, inl, inr, ⊎_elim, List, [], ◌∷◌, Bool, true, false, ◌||◌, not, cond, refl, sym, ap, ◌∙◌, subst, eqb}
use Rattle.std.proofs.lemmas.Bool.{cond_both, both_ways, eqb-true}
use Rattle.std.proofs.lemmas.List.{append-nil}
use Rattle.isle_base.specs.Spellings.{Spelling}
use Rattle.isle_base.specs.Skips.{Inside, Longest, begins_with, in_line, is_blank}
use Rattle.isle_tidy_layout.specs.Entries.{Lexeme, opening, closing, at_sign, atom, line_comment, block_comment, Entry}
use Rattle.isle_tidy_layout.specs.declared.entries.Gap.{Gap}
use Rattle.isle_tidy_layout.specs.declared.entries.Gap.TheVariants.{Beside, Tabbed, Below}
use Rattle.isle_tidy_core.specs.Fitting.{IsLexeme, AreEntries, is_below, follows}
use Rattle.isle_tidy_core.specs.Grammar.{Spells, SpellsEntries, IsDocument, space_more, tab_more, line_more, blank_more, gap_of}
use Rattle.isle_tidy_layout.specs.Placing.{kind_of}
use Rattle.isle_tidy_layout.specs.declared.placing.Kind.{Kind}
use Rattle.isle_tidy_layout.specs.declared.placing.Kind.TheVariants.{Start, LineComment}
use Rattle.isle_tidy_core.proofs.Moved.{atom_moves, block_comment_moves}
use Rattle.isle_tidy_core.proofs.Unique.{nothing_spelt}

pub spelt_lexeme : (x : Lexeme) (text rest : List ℕ) → Spells x text rest → IsLexeme x
spelt_lexeme opening text rest s = tt
spelt_lexeme closing text rest s = tt
spelt_lexeme at_sign text rest s = tt
spelt_lexeme (atom bytes) text rest s =
    (s.0, s.1, subst (λ xs. Spelling xs s.0 []) (append-nil bytes) (atom_moves s.0 bytes text rest [] s.1 refl s.2 s.3))
spelt_lexeme (line_comment bytes) text rest s = s.2.each
spelt_lexeme (block_comment bytes) text rest s = subst (λ xs. Inside xs []) (append-nil bytes) (block_comment_moves bytes s.0 rest [] s.2 s.3)

-- A gap that is below stays so.

line_below : (gap : Gap) → is_below (line_more gap) ≡ true
line_below (Beside width) = refl
line_below (Tabbed width) = refl
line_below (Below empty column) = refl

blank_below : (gap : Gap) (b : ℕ) (feed : Bool) → is_below gap ≡ true → is_below (blank_more gap b feed) ≡ true
blank_below (Beside width) b feed h = cc
blank_below (Tabbed width) b feed h = cc
blank_below (Below empty column) b feed h =
    let P = λ (g : Gap). is_below g ≡ true in
    let gap : Gap = Below empty column in
    let last = cond_both (eqb b 9) (tab_more gap) (space_more gap) P (λ _. refl) (λ _. refl) in
    let return = cond_both feed gap (line_more gap) P (λ _. refl) (λ _. refl) in
    cond_both (eqb b 10) (line_more gap) (cond (eqb b 13) (cond feed gap (line_more gap)) (cond (eqb b 9) (tab_more gap) (space_more gap))) P (λ _. refl)
    (λ _. cond_both (eqb b 13) (cond feed gap (line_more gap)) (cond (eqb b 9) (tab_more gap) (space_more gap)) P (λ _. return) (λ _. last))

blanks_below : (gap : Gap) (bs : List ℕ) → is_below gap ≡ true → is_below (gap_of gap bs) ≡ true
blanks_below gap [] h = h
blanks_below gap (b ∷ bs) h = blanks_below (blank_more gap b (begins_with (λ c. eqb c 10) bs)) bs (blank_below gap b (begins_with (λ c. eqb c 10) bs) h)

-- Blanks that begin with a line end are one.

pub feed_below : (gap : Gap) (bs : List ℕ) → is_below (gap_of gap (10 ∷ bs)) ≡ true
feed_below gap bs = blanks_below (line_more gap) bs (line_below gap)

pub return_below : (gap : Gap) (bs : List ℕ) (feed : Bool) → begins_with (λ c. eqb c 10) bs ≡ feed → is_below (gap_of (cond feed gap (line_more gap)) bs) ≡ true
return_below gap bs false e = blanks_below (line_more gap) bs (line_below gap)
return_below gap [] true e = cc
return_below gap (b ∷ bs) true e = subst (λ c. is_below (gap_of gap (c ∷ bs)) ≡ true) (sym (eqb-true b 10 e)) (feed_below gap bs)

not_or : (a b : Bool) → not (a || b) ≡ false → (a ≡ true) ⊎ (b ≡ true)
not_or true b h = inl refl
not_or false true h = inr refl
not_or false false h = cc

line_end : (b : ℕ) → in_line b ≡ false → (b ≡ 10) ⊎ (b ≡ 13)
unfolding in_line
line_end b h = ⊎_elim (λ feed. inl (eqb-true b 10 feed)) (λ return. inr (eqb-true b 13 return)) (not_or (eqb b 10) (eqb b 13) h)

end_blank : (b : ℕ) → in_line b ≡ false → is_blank b ≡ true
unfolding is_blank
end_blank b h = ⊎_elim (λ feed. ap is_blank feed) (λ return. ap is_blank return) (line_end b h)

end_below : (gap : Gap) (b : ℕ) (bs : List ℕ) → in_line b ≡ false → is_below (gap_of gap (b ∷ bs)) ≡ true
end_below gap b bs h =
    ⊎_elim (λ feed. subst (λ c. is_below (gap_of gap (c ∷ bs)) ≡ true) (sym feed) (feed_below gap bs))
    (λ return. subst (λ c. is_below (gap_of gap (c ∷ bs)) ≡ true) (sym return) (return_below gap bs (begins_with (λ c. eqb c 10) bs) refl))
    (line_end b h)

-- the gap that blanks make where the text goes on with a line end
ended_below : (gap : Gap) (x : Lexeme) (text blanks from after : List ℕ) → begins_with in_line text ≡ false → Longest is_blank text blanks from → Spells x from after → is_below (gap_of gap blanks) ≡ true
ended_below gap x [] [] from after h l s = absurd (nothing_spelt x after (subst (λ xs. Spells x xs after) (sym l.split) s))
ended_below gap x [] (c ∷ cs) from after h l s = let e = l.split in cc
ended_below gap x (b ∷ text) [] from after h l s =
    absurd (both_ways (is_blank b) (ap (begins_with is_blank) l.split ∙ l.stops) (end_blank b h))
ended_below gap x (b ∷ text) (c ∷ cs) from after h l s =
    let e = l.split in
    let first : b ≡ c = cc in
    end_below gap c cs (sym (ap in_line first) ∙ h)

-- What is known where entries begin behind a gap of which so much has been read.
abbrev Begins : Kind → Gap → List ℕ → Type 0
Begins Start gap text = is_below gap ≡ true
Begins LineComment gap text = begins_with in_line text ≡ false
Begins _ gap text = Unit {0}

gap_follows : (before : Kind) (gap : Gap) (x : Lexeme) (text blanks from after : List ℕ) → Begins before gap text → Longest is_blank text blanks from → Spells x from after → follows before (gap_of gap blanks) ≡ true
gap_follows Start gap x text blanks from after h l s = blanks_below gap blanks h
gap_follows LineComment gap x text blanks from after h l s = ended_below gap x text blanks from after h l s
gap_follows _ gap x text blanks from after h l s = refl

next_begins : (x : Lexeme) (text rest : List ℕ) → Spells x text rest → Begins (kind_of x) (Beside 0) rest
next_begins opening text rest s = tt
next_begins closing text rest s = tt
next_begins at_sign text rest s = tt
next_begins (atom bytes) text rest s = tt
next_begins (line_comment bytes) text rest s = s.2.stops
next_begins (block_comment bytes) text rest s = tt

spelt_entries : (before : Kind) (gap : Gap) (es : List Entry) (text : List ℕ) → Begins before gap text → SpellsEntries gap es text → AreEntries before es
spelt_entries before gap [] text h s = tt
spelt_entries before gap (e ∷ es) text h s = (
  spelt_lexeme e.lexeme s.1 s.2 s.5,
  subst (λ g. follows before g ≡ true) (sym s.4) (gap_follows before gap e.lexeme text s.0 s.1 s.2 h s.3 s.5),
  spelt_entries (kind_of e.lexeme) (Beside 0) es s.2 (next_begins e.lexeme s.1 s.2 s.5) s.6,
)

pub document_entries : (text : List ℕ) (es : List Entry) → IsDocument text es → AreEntries Start es
document_entries text es d = spelt_entries Start (Below 0 0) es text refl d.0
