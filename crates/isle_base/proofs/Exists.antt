-- What the view computes is so: each text has tokens and an ending.
use Rattle.std.proofs.Common.{◌≡◌, ℕ, zero, suc, ◌≤◌, ◌<◌, List, [], ◌∷◌, Bool, true, false, ◌&&◌, not, ⊎_elim, sym, Option, Some, None, MatchOption, ℤ, length, drop, refl, ap, subst, eqb, arith}
use Rattle.std.specs.List.{take_while}
use Rattle.std.proofs.lemmas.Bool.{and_parts, cases_Bool, cond_both, eqb-true}
use Rattle.isle_base.specs.Computed.{First, ended, refused, found, behind, close, literal_first, spelling_first, comment_first, first, Computed, computed_by, computed}
use Rattle.isle_base.specs.Lexing.{Faulty, unclosed, form_feed, literal, Lexes}
use Rattle.isle_base.specs.Literals.{begins_literal, in_literal, behind_minus, behind_prefix, Literal}
use Rattle.isle_base.specs.Spellings.{begins_symbol, in_symbol, is_lone_minus, symbol_here, Spelling}
use Rattle.isle_base.specs.Skips.{Skip, nothing, blank, line_comment, block_comment, Inside, is_blank, in_line, opens}
use Rattle.isle_base.proofs.Bytes.{symbol_else}
use Rattle.isle_base.proofs.Comments.{opens_as, Inside-shorter, close_gives}
use Rattle.isle_base.proofs.Complete.{Skip-le, Longest-le, Spelling-shorter}
use Rattle.isle_base.proofs.Minus.{begins_here, lone_here}
use Rattle.isle_base.proofs.Runs.{longest}

-- the text begins with this, after a skip
abbrev Sound : List ℕ → First → Type 0
Sound text ended = Skip text []
Sound text (refused from) = Skip text from × Faulty from
Sound text (found from token after) = Skip text from × Spelling from token after

literal_sound : (text after : List ℕ) (value : Option ℤ) → Literal text value after → is_lone_minus text ≡ false → Sound text (literal_first text after value)
unfolding literal_first
literal_sound text after None l whole = (nothing refl, literal l whole)
literal_sound text after (Some value) l whole = (nothing refl, l)

not_lone : (lone : Bool) → not lone ≡ true → lone ≡ false
not_lone true h = sym h
not_lone false h = refl

no_literal : (begins lone : Bool) → (begins && not lone) ≡ false → lone ≡ false → begins ≡ false
no_literal true true h e = e
no_literal true false h e = h
no_literal false lone h e = refl

-- where no literal begins, or a lone `-` stands, a symbol does
symbol_sound : (b : ℕ) (rest : List ℕ) → (begins_literal b ≡ false → begins_symbol b ≡ true) → (begins_literal b && not (is_lone_minus (b ∷ rest))) ≡ false → symbol_here (b ∷ rest) ≡ true
symbol_sound b rest plain h =
    ⊎_elim
    (λ lone. lone_here (b ∷ rest) lone)
    (λ whole. begins_here b rest (plain (no_literal (begins_literal b) (is_lone_minus (b ∷ rest)) h whole)))
    (cases_Bool (is_lone_minus (b ∷ rest)))

spelling_sound : (b : ℕ) (rest : List ℕ) → is_blank b ≡ false → eqb b 59 ≡ false → opens (b ∷ rest) ≡ false → Sound (b ∷ rest) (spelling_first (b ∷ rest))
unfolding spelling_first
spelling_sound b rest not_blank no_line no_block =
    cond_both (eqb b 40) _ _ (Sound (b ∷ rest)) (λ e. (nothing refl, (ap (λ x. x ∷ rest) (eqb-true b 40 e), no_block))) (λ no_open.
    cond_both (eqb b 41) _ _ (Sound (b ∷ rest)) (λ e. (nothing refl, ap (λ x. x ∷ rest) (eqb-true b 41 e))) (λ no_close.
    cond_both (eqb b 64) _ _ (Sound (b ∷ rest)) (λ e. (nothing refl, ap (λ x. x ∷ rest) (eqb-true b 64 e))) (λ no_at.
    cond_both (eqb b 12) _ _ (Sound (b ∷ rest)) (λ e. (nothing refl, form_feed (ap (λ x. x ∷ rest) (eqb-true b 12 e)))) (λ no_feed.
    cond_both (begins_literal b && not (is_lone_minus (b ∷ rest))) _ _ (Sound (b ∷ rest))
    (λ begins. literal_sound (b ∷ rest) (behind in_literal (behind_prefix (behind_minus (b ∷ rest)))) _ (record {
      begins = (and_parts (begins_literal b) (not (is_lone_minus (b ∷ rest))) begins).0;
      run = take_while in_literal (behind_prefix (behind_minus (b ∷ rest)));
      longest = longest in_literal (behind_prefix (behind_minus (b ∷ rest)));
      meaning = refl;
    }) (not_lone (is_lone_minus (b ∷ rest)) (and_parts (begins_literal b) (not (is_lone_minus (b ∷ rest))) begins).1))
    (λ no_literal. (nothing refl, (symbol_sound b rest (symbol_else b not_blank no_line no_open no_close no_at no_feed) no_literal, longest in_symbol (b ∷ rest))))))))

-- what comes after the first part of a skip
sound_behind : (text mid : List ℕ) (f : First) → ((from : List ℕ) → Skip mid from → Skip text from) → Sound mid f → Sound text f
sound_behind text mid ended step s = step [] s
sound_behind text mid (refused from) step s = (step from s.0, s.1)
sound_behind text mid (found from token after) step s = (step from s.0, s.1)

abbrev Ended : List ℕ → Option (List ℕ) → Type 0
Ended inner o = MatchOption o ((rest : List ℕ) → (mid : List ℕ) × Inside inner mid × (mid ≡ rest) → ⊥) (λ rest. (mid : List ℕ) × Inside inner mid × (mid ≡ rest))

comment_sound : (more : List ℕ → First) (text inner : List ℕ) → text ≡ 40 ∷ 59 ∷ inner → ((after : List ℕ) → length after < length text → Sound after (more after)) → (o : Option (List ℕ)) → Ended inner o → Sound text (comment_first more text o)
unfolding comment_first
comment_sound more text inner e h None never = (nothing refl, unclosed e (λ rest i. never rest (rest, i, refl)))
comment_sound more text inner e h (Some after) stood =
    let inside = subst (λ xs. Inside inner xs) stood.2 stood.1 in
    sound_behind text after (more after) (λ from s. block_comment e inside s) (h after (omega (arith, Inside-shorter inside, ap length e)))

opened : (b : ℕ) (rest : List ℕ) → opens (b ∷ rest) ≡ true → b ∷ rest ≡ 40 ∷ 59 ∷ drop 1 rest
opened b [] is = cc
opened b (c ∷ rest) is = let e = (opens_as (b ∷ c ∷ rest) is).1 in cc

first_sound : (n : ℕ) (text : List ℕ) → length text ≤ n → Sound text (first n text)
unfolding first
first_sound zero [] h = nothing refl
first_sound zero (b ∷ rest) h = absurd (omega arith)
first_sound (suc n) [] h = nothing refl
first_sound (suc n) (b ∷ rest) h =
    cond_both (is_blank b) _ _ (Sound (b ∷ rest))
    (λ is. sound_behind (b ∷ rest) rest (first n rest) (λ from s. blank b refl is s) (first_sound n rest (omega arith)))
    (λ not_blank. cond_both (eqb b 59) _ _ (Sound (b ∷ rest))
    (λ is. sound_behind (b ∷ rest) (behind in_line rest) (first n (behind in_line rest))
    (λ from s. line_comment (take_while in_line rest) (ap (λ x. x ∷ rest) (eqb-true b 59 is)) (longest in_line rest) s)
    (first_sound n (behind in_line rest) (omega (arith, Longest-le (longest in_line rest)))))
    (λ no_line. cond_both (opens (b ∷ rest)) _ _ (Sound (b ∷ rest))
    (λ is. comment_sound (first n) (b ∷ rest) (drop 1 rest) (opened b rest is) (λ after short. first_sound n after (omega arith)) (close 1 (drop 1 rest)) (close_gives 1 (drop 1 rest)))
    (λ no_block. spelling_sound b rest not_blank no_line no_block)))

step_sound : (more : List ℕ → Computed) (size : ℕ) (text : List ℕ) → ((after : List ℕ) → length after < length text → Lexes size after (more after).tokens (more after).ending) → (f : First) → Sound text f → Lexes size text (computed_by more size f).tokens (computed_by more size f).ending
unfolding computed_by
step_sound more size text h ended s = s
step_sound more size text h (refused from) s = (from, s.0, s.1, refl)
step_sound more size text h (found from token after) s =
    (from, after, s.0, s.1, refl, refl, h after (omega (arith, Skip-le s.0, Spelling-shorter from token after s.1)))

pub computed_sound : (n size : ℕ) (text : List ℕ) → length text ≤ n → Lexes size text (computed n size text).tokens (computed n size text).ending
unfolding computed
computed_sound zero size [] h = nothing refl
computed_sound zero size (b ∷ rest) h = absurd (omega arith)
computed_sound (suc n) size text h =
    step_sound (computed n size) size text (λ after short. computed_sound n size after (omega arith)) (first (length text) text) (first_sound (length text) text (omega arith))
