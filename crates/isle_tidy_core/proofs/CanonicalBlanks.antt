-- Blanks that are what is written of their gap.
use Rattle.std.proofs.Common.{◌≡◌, ℕ, suc, ◌+◌, ◌-◌, ◌≤◌, ◌<◌, List, [], ◌∷◌, ◌++◌, true, false, drop, take, get_or, length, replicate, refl, sym, ap, subst, ◌∙◌, eqb, arith}
use Rattle.std.proofs.lemmas.Bool.{cond_both, eqb-true, ne_eqb}
use Rattle.std.proofs.lemmas.List.{drop_all, drop_more}
use Rattle.std.specs.List.{prefix_len, list_all}
use Rattle.isle_base.specs.Skips.{begins_with, is_blank}
use Rattle.isle_tidy_core.specs.Finds.{AreCanonical, FindsGap, part}
use Rattle.isle_tidy_core.specs.Grammar.{gap_of}
use Rattle.isle_tidy_core.proofs.Pending.{part_joined, part_none}
use Rattle.isle_tidy_core.proofs.Keeps.{spaces_beside, spaces_blank, indentation_blank, indentation_gap, is_blank-10}
use Rattle.isle_tidy_core.proofs.Standing.{split_at}
use Rattle.isle_tidy_layout.specs.Writing.{gap_text}
use Rattle.isle_tidy_layout.specs.declared.entries.Gap.{Gap}
use Rattle.isle_tidy_layout.specs.declared.entries.Gap.TheVariants.{Beside, Below}

-- a run of one byte
prefix_replicated : (b : ℕ) (xs : List ℕ) → take (prefix_len (λ x. eqb x b) xs) xs ≡ replicate (prefix_len (λ x. eqb x b) xs) b
prefix_replicated b [] = refl
prefix_replicated b (x ∷ xs) =
    let n = prefix_len (λ y. eqb y b) xs in
    let next : suc n ≡ 1 + n = omega arith in
    let more : (x ≡ b) → take (suc n) (x ∷ xs) ≡ replicate (suc n) b = λ e. ap (λ y. y ∷ take n xs) e ∙ ap (λ ys. b ∷ ys) (prefix_replicated b xs) in
    cond_both (eqb x b) (1 + n) 0 (λ k. take k (x ∷ xs) ≡ replicate k b) (λ is. subst (λ k. take k (x ∷ xs) ≡ replicate k b) next (more (eqb-true x b is))) (λ _. refl)

run_replicated : (text : List ℕ) (from to b : ℕ) → to ≡ from + prefix_len (λ x. eqb x b) (drop from text) → part text from to ≡ replicate (to - from) b
run_replicated text from to b e =
    let count : prefix_len (λ x. eqb x b) (drop from text) ≡ to - from = omega arith in
    subst (λ n. take n (drop from text) ≡ replicate n b) count (prefix_replicated b (drop from text))

-- a byte past the space is no blank
pub past_space : (b : ℕ) → 32 < b → is_blank b ≡ false
unfolding is_blank
past_space b h =
    rw (ne_eqb b 32 (λ e. omega (arith, h, e)), ne_eqb b 9 (λ e. omega (arith, h, e)), ne_eqb b 10 (λ e. omega (arith, h, e)), ne_eqb b 13 (λ e. omega (arith, h, e))) refl

pub blanks_stop : (text : List ℕ) (at : ℕ) → at < length text → 32 < get_or text at 0 → begins_with is_blank (drop at text) ≡ false
blanks_stop text at short h = ap (begins_with is_blank) (drop_more text at 0 short) ∙ past_space (get_or text at 0) h

pub text_stops : (text : List ℕ) (at : ℕ) → length text ≤ at → begins_with is_blank (drop at text) ≡ false
text_stops text at h = ap (begins_with is_blank) (drop_all at text h)

finds_canonical : (text : List ℕ) (from to : ℕ) (gap : Gap) → from ≤ to → to ≤ length text → begins_with is_blank (drop to text) ≡ false → part text from to ≡ gap_text gap → list_all is_blank (gap_text gap) ≡ true → gap ≡ gap_of (Beside 0) (gap_text gap) → FindsGap text (Beside 0) from gap to × AreCanonical text from to gap
finds_canonical text from to gap order within stops e blank read =
    ((gap_text gap, record { split = split_at text from to order ∙ ap (λ xs. xs ++ drop to text) e; each = blank; stops = stops }, read, order, within), e)

-- spaces alone
pub canonical_beside : (text : List ℕ) (from to : ℕ) → to ≤ length text → to ≡ from + prefix_len (λ x. eqb x 32) (drop from text) → begins_with is_blank (drop to text) ≡ false → FindsGap text (Beside 0) from (Beside (to - from)) to × AreCanonical text from to (Beside (to - from))
canonical_beside text from to within e stops =
    let order : from ≤ to = omega (arith, e) in
    finds_canonical text from to (Beside (to - from)) order within stops (run_replicated text from to 32 e) (spaces_blank (to - from)) (sym (spaces_beside 0 (to - from) ∙ ap Beside (omega arith)))

-- line ends, and then spaces
pub canonical_below : (text : List ℕ) (from line to : ℕ) → to ≤ length text → line ≡ from + prefix_len (λ x. eqb x 10) (drop from text) → to ≡ line + prefix_len (λ x. eqb x 32) (drop line text) → from < line → begins_with is_blank (drop to text) ≡ false → FindsGap text (Beside 0) from (Below (line - from - 1) (to - line)) to × AreCanonical text from to (Below (line - from - 1) (to - line))
canonical_below text from line to within e f some stops =
    let empty = line - from - 1 in
    let column = to - line in
    let count : line - from ≡ suc empty = omega (arith, some) in
    let order : line ≤ to = omega (arith, f) in
    let is : part text from to ≡ gap_text (Below empty column) =
    part_joined text from line to (omega (arith, some)) order
    ∙ ap (λ xs. xs ++ part text line to) (run_replicated text from line 10 e ∙ ap (λ n. replicate n 10) count)
    ∙ ap (λ xs. replicate (suc empty) 10 ++ xs) (run_replicated text line to 32 f) in
    let blank : list_all is_blank (gap_text (Below empty column)) ≡ true = rw is_blank-10 (indentation_blank empty column) in
    let read : Below empty column ≡ gap_of (Beside 0) (gap_text (Below empty column)) = sym (indentation_gap 0 empty column ∙ ap (λ k. Below k column) (omega arith)) in
    finds_canonical text from to (Below empty column) (omega (arith, some, order)) within stops is blank read

-- one space or none
pub canonical_none : (text : List ℕ) (from to : ℕ) → to ≡ from → from < length text → 32 < get_or text from 0 → FindsGap text (Beside 0) from (Beside 0) to × AreCanonical text from to (Beside 0)
canonical_none text from to is short h =
    subst (λ n. FindsGap text (Beside 0) from (Beside 0) n × AreCanonical text from n (Beside 0)) (sym is)
    (finds_canonical text from from (Beside 0) (omega arith) (omega (arith, short)) (blanks_stop text from short h) (part_none text from) refl refl)

pub canonical_one : (text : List ℕ) (from : ℕ) → from + 1 < length text → get_or text from 0 ≡ 32 → 32 < get_or text (from + 1) 0 → FindsGap text (Beside 0) from (Beside 1) (from + 1) × AreCanonical text from (from + 1) (Beside 1)
canonical_one text from short is h =
    let count : from + 1 - from ≡ 1 = omega arith in
    let space : part text from (from + 1) ≡ 32 ∷ [] = ap (λ n. take n (drop from text)) count ∙ ap (take 1) (drop_more text from 0 (omega arith)) ∙ ap (λ b. b ∷ []) is in
    finds_canonical text from (from + 1) (Beside 1) (omega arith) (omega (arith, short)) (blanks_stop text (from + 1) short h) space (spaces_blank 1) (sym (spaces_beside 0 1))
