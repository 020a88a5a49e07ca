-- What placing keeps.
use Rattle.std.proofs.Common.{◌≡◌, ℕ, List, [], ◌∷◌, map, Option, Some, None, refl, ap, ◌∙◌}
use Rattle.isle_tidy_layout.specs.Entries.{Lexeme, Entry}
use Rattle.isle_tidy_layout.specs.declared.entries.Gap.{Gap}
use Rattle.isle_tidy_layout.specs.declared.entries.Gap.TheVariants.{Beside, Tabbed, Below}
use Rattle.isle_tidy_core.specs.Grammar.{lexemes}
use Rattle.isle_tidy_layout.specs.Placing.{tidied, kind_of, closings, at_most_two, empty_lines, Here, placed_gap, reached, passed, placed_after, text_start, placed}
use Rattle.isle_tidy_layout.specs.declared.placing.Kind.{Kind}
use Rattle.isle_tidy_layout.specs.declared.placing.Kind.TheVariants.{Start}
use Rattle.isle_tidy_core.specs.Tidied.{empty_before, breaks, capped, without_empty, capped_breaks}

placed_lexemes : (es : List Entry) (here : Here) → lexemes (placed_after here es) ≡ map tidied (lexemes es)
placed_lexemes [] here = refl
placed_lexemes (e ∷ es) here =
    let kind = kind_of e.lexeme in
    let gap = placed_gap here e.gap kind (closings es) in
    ap (λ xs. tidied e.lexeme ∷ xs) (placed_lexemes es (passed (reached here kind e.gap gap) e.lexeme))

pub lexemes_stay : (es : List Entry) → lexemes (placed es) ≡ map tidied (lexemes es)
lexemes_stay es = placed_lexemes es text_start

-- behind the start

later : (before : Kind) → Option ℕ → Option ℕ
later before None = None
later before (Some empty) = Some (empty_lines before empty)

gap_break : (here : Here) (gap : Gap) (kind : Kind) (inner : ℕ) → empty_before (placed_gap here gap kind inner) ≡ later here.before (empty_before gap)
unfolding later
gap_break here (Beside width) kind inner = refl
gap_break here (Tabbed width) kind inner = refl
gap_break here (Below empty column) kind inner = refl

empty_later : (x : Lexeme) (empty : ℕ) → empty_lines (kind_of x) empty ≡ at_most_two empty
empty_later Lexeme.opening empty = refl
empty_later Lexeme.closing empty = refl
empty_later Lexeme.at_sign empty = refl
empty_later (Lexeme.atom bs) empty = refl
empty_later (Lexeme.line_comment bs) empty = refl
empty_later (Lexeme.block_comment bs) empty = refl

break_later : (x : Lexeme) (o : Option ℕ) → later (kind_of x) o ≡ capped o
unfolding later
break_later x None = refl
break_later x (Some empty) = ap Some (empty_later x empty)

placed_breaks : (es : List Entry) (here : Here) (x : Lexeme) → here.before ≡ kind_of x → breaks (placed_after here es) ≡ map capped (breaks es)
placed_breaks [] here x is = refl
placed_breaks (e ∷ es) here x is =
    let kind = kind_of e.lexeme in
    let gap = placed_gap here e.gap kind (closings es) in
    let there = passed (reached here kind e.gap gap) e.lexeme in
    let first : empty_before gap ≡ capped (empty_before e.gap) = gap_break here e.gap kind (closings es) ∙ ap (λ k. later k (empty_before e.gap)) is ∙ break_later x (empty_before e.gap) in
    ap (λ b. b ∷ breaks (placed_after there es)) first
    ∙ ap (λ bs. capped (empty_before e.gap) ∷ bs) (placed_breaks es there e.lexeme refl)

first_break : (o : Option ℕ) → later Start o ≡ without_empty o
unfolding later
first_break None = refl
first_break (Some empty) = refl

pub breaks_stay : (es : List Entry) → breaks (placed es) ≡ capped_breaks (breaks es)
breaks_stay [] = refl
breaks_stay (e ∷ es) =
    let kind = kind_of e.lexeme in
    let gap = placed_gap text_start e.gap kind (closings es) in
    let there = passed (reached text_start kind e.gap gap) e.lexeme in
    ap (λ b. b ∷ breaks (placed_after there es)) (gap_break text_start e.gap kind (closings es) ∙ first_break (empty_before e.gap))
    ∙ ap (λ bs. without_empty (empty_before e.gap) ∷ bs) (placed_breaks es there e.lexeme refl)
