-- What is written of a text without CR has none either.
use Rattle.std.proofs.Common.{◌≡◌, ℕ, zero, suc, List, [], ◌∷◌, ◌++◌, true, ◌||◌, eqb, replicate, refl, sym, ap, ◌∙◌}
use Rattle.std.proofs.lemmas.Bool.{and_from, and_parts, cond_both}
use Rattle.std.proofs.lemmas.List.Folds.{list_all-append}
use Rattle.std.specs.List.{list_all}
use Rattle.isle_tidy_core.specs.Ends.{is_no_return, lexeme_with, entries_with}
use Rattle.isle_tidy_core.specs.Grammar.{Spells, SpellsEntries}
use Rattle.isle_tidy_core.specs.declared.ends.LineEnd.TheVariants.{Lf}
use Rattle.isle_tidy_core.proofs.LineEnds.{plain_stays}
use Rattle.isle_tidy_layout.specs.Entries.{Lexeme, opening, closing, at_sign, atom, line_comment, block_comment, Entry}
use Rattle.isle_tidy_layout.specs.Placing.{tidied, kind_of, closings, before_trimmed, trimmed, Here, placed_gap, reached, passed, placed_after, text_start, placed}
use Rattle.isle_tidy_layout.specs.Writing.{spelling, indentation, gap_text, start_text, written_after, written}
use Rattle.isle_tidy_layout.specs.declared.entries.Gap.{Gap}
use Rattle.isle_tidy_layout.specs.declared.entries.Gap.TheVariants.{Beside, Tabbed, Below}

abbrev pub HasNoReturn : List ℕ → Type 0
HasNoReturn text = list_all is_no_return text ≡ true

both_plain : (xs ys : List ℕ) → HasNoReturn (xs ++ ys) → HasNoReturn xs × HasNoReturn ys
both_plain xs ys h = and_parts (list_all is_no_return xs) (list_all is_no_return ys) (sym (list_all-append is_no_return xs ys) ∙ h)

plain_both : (xs ys : List ℕ) → HasNoReturn xs → HasNoReturn ys → HasNoReturn (xs ++ ys)
plain_both xs ys h k = list_all-append is_no_return xs ys ∙ and_from (list_all is_no_return xs) (list_all is_no_return ys) h k

spelt_split : (x : Lexeme) (text rest : List ℕ) → Spells x text rest → text ≡ spelling x ++ rest
spelt_split opening text rest s = s.0
spelt_split closing text rest s = s
spelt_split at_sign text rest s = s
spelt_split (atom bytes) text rest s = s.3
spelt_split (line_comment bytes) text rest s = s.1 ∙ ap (λ xs. 59 ∷ xs) s.2.split
spelt_split (block_comment bytes) text rest s = s.1 ∙ ap (λ xs. 40 ∷ 59 ∷ xs) s.2

-- no lexeme of these has a CR
abbrev pub HaveNoReturn : List Entry → Type 0
HaveNoReturn [] = Unit {0}
HaveNoReturn (e ∷ es) = HasNoReturn (spelling e.lexeme) × HaveNoReturn es

pub spelt_plain : (gap : Gap) (es : List Entry) (text : List ℕ) → SpellsEntries gap es text → HasNoReturn text → HaveNoReturn es
spelt_plain gap [] text s h = tt
spelt_plain gap (e ∷ es) text s h =
    let from : HasNoReturn s.1 = (both_plain s.0 s.1 (sym (ap (list_all is_no_return) s.3.split) ∙ h)).1 in
    let parts = both_plain (spelling e.lexeme) s.2 (sym (ap (list_all is_no_return) (spelt_split e.lexeme s.1 s.2 s.5)) ∙ from) in
    (parts.0, spelt_plain (Beside 0) es s.2 s.6 parts.1)

-- Their line ends are LF already.

lexeme_stays : (x : Lexeme) → HasNoReturn (spelling x) → lexeme_with Lf x ≡ x
lexeme_stays opening h = refl
lexeme_stays closing h = refl
lexeme_stays at_sign h = refl
lexeme_stays (atom bytes) h = refl
lexeme_stays (line_comment bytes) h = refl
lexeme_stays (block_comment bytes) h = ap block_comment (plain_stays bytes h)

pub entries_stay : (es : List Entry) → HaveNoReturn es → entries_with Lf es ≡ es
entries_stay [] h = refl
entries_stay (e ∷ es) h =
    ap (λ (x : Lexeme). let f : Entry = record { gap = e.gap; lexeme = x } in f ∷ entries_with Lf es) (lexeme_stays e.lexeme h.0)
    ∙ ap (λ fs. e ∷ fs) (entries_stay es h.1)

-- What is written of them.

run_plain : (n b : ℕ) → is_no_return b ≡ true → HasNoReturn (replicate n b)
run_plain zero b h = refl
run_plain (suc n) b h = and_from (is_no_return b) (list_all is_no_return (replicate n b)) h (run_plain n b h)

indentation_plain : (empty column : ℕ) → HasNoReturn (indentation empty column)
indentation_plain empty column = plain_both (replicate empty 10) (replicate column 32) (run_plain empty 10 refl) (run_plain column 32 refl)

gap_plain : (gap : Gap) → HasNoReturn (gap_text gap)
gap_plain (Beside width) = run_plain width 32 refl
gap_plain (Tabbed zero) = refl
gap_plain (Tabbed (suc width)) = run_plain width 32 refl
gap_plain (Below empty column) = indentation_plain empty column

start_plain : (gap : Gap) → HasNoReturn (start_text gap)
start_plain (Beside width) = refl
start_plain (Tabbed width) = refl
start_plain (Below empty column) = indentation_plain empty column

before_plain : (b : ℕ) (bs : List ℕ) → is_no_return b ≡ true → HasNoReturn bs → HasNoReturn (before_trimmed b bs)
before_plain b [] h more = cond_both (eqb b 32 || eqb b 9) [] (b ∷ []) HasNoReturn (λ _. refl) (λ _. and_from (is_no_return b) true h refl)
before_plain b (c ∷ cs) h more = and_from (is_no_return b) (list_all is_no_return (c ∷ cs)) h more

trimmed_plain : (bs : List ℕ) → HasNoReturn bs → HasNoReturn (trimmed bs)
trimmed_plain [] h = refl
trimmed_plain (b ∷ bs) h =
    let parts = and_parts (is_no_return b) (list_all is_no_return bs) h in
    before_plain b (trimmed bs) parts.0 (trimmed_plain bs parts.1)

tidied_plain : (x : Lexeme) → HasNoReturn (spelling x) → HasNoReturn (spelling (tidied x))
tidied_plain opening h = refl
tidied_plain closing h = refl
tidied_plain at_sign h = refl
tidied_plain (atom bytes) h = h
tidied_plain (line_comment bytes) h = trimmed_plain bytes h
tidied_plain (block_comment bytes) h = h

after_plain : (here : Here) (es : List Entry) → HaveNoReturn es → HasNoReturn (written_after (placed_after here es))
after_plain here [] h = refl
after_plain here (e ∷ es) h =
    let kind = kind_of e.lexeme in
    let gap = placed_gap here e.gap kind (closings es) in
    let more = written_after (placed_after (passed (reached here kind e.gap gap) e.lexeme) es) in
    plain_both (gap_text gap) (spelling (tidied e.lexeme) ++ more) (gap_plain gap)
    (plain_both (spelling (tidied e.lexeme)) more (tidied_plain e.lexeme h.0) (after_plain (passed (reached here kind e.gap gap) e.lexeme) es h.1))

pub placed_plain : (es : List Entry) → HaveNoReturn es → HasNoReturn (written (placed es))
placed_plain [] h = refl
placed_plain (e ∷ es) h =
    let kind = kind_of e.lexeme in
    let gap = placed_gap text_start e.gap kind (closings es) in
    let there = passed (reached text_start kind e.gap gap) e.lexeme in
    let more = written_after (placed_after there es) in
    plain_both (start_text gap) (spelling (tidied e.lexeme) ++ more) (start_plain gap)
    (plain_both (spelling (tidied e.lexeme)) more (tidied_plain e.lexeme h.0) (after_plain there es h.1))
