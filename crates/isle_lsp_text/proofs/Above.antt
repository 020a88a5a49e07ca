-- The walk over the lines above a place, one byte at a time.
use Rattle.std.proofs.Common.{◌≡◌, ℕ, ◌+◌, ◌<◌, ◌≤◌, List, [], ◌∷◌, Bool, true, false, ◌==◌, cond, length, get_or, drop, ◌⊎◌, inl, inr, refl, sym, ◌∙◌, ap, add-one, drop-cons, arith}
use Rattle.std.proofs.lemmas.Bool.{cases_Bool}
use Rattle.std.proofs.lemmas.Grind.{common_steps}
use Rattle.isle_base.specs.Bytes.{line_feed}
use Rattle.isle_lsp_text.specs.Comments.{comments, go_on, is_blank, line_after, line_ended, line_with, start_after}
use Rattle.isle_lsp_text.specs.declared.comments.Line.{Line}
use Rattle.isle_lsp_text.specs.declared.comments.Line.TheVariants.{Blank, Comment, Commented, Other}

-- what the comments come to, where these lines of comments have been met, and these bytes are to come
abbrev pub above : Line → (met rest : List ℕ) → List ℕ
above line met rest = cond (go_on line rest) met (comments false rest)

c_nil : (begins : Bool) → comments begins [] ≡ []
unfolding comments
c_nil begins = refl

c_later : (b : ℕ) (bs : List ℕ) → comments false (b ∷ bs) ≡ comments (b == line_feed) bs
unfolding comments
c_later b bs = refl

-- where a line begins
c_begins : (bs : List ℕ) → comments true bs ≡ above Blank bs bs
unfolding comments
c_begins [] = refl
c_begins (b ∷ bs) = elim (cases_Bool (go_on Blank (b ∷ bs))) [ inl e ↦ rw e refl | inr e ↦ rw e refl ]

-- what is no line of comments stays so
no_more : (bs : List ℕ) → go_on Other bs ≡ false
no_more [] = refl
no_more (b ∷ bs) = elim (cases_Bool (b == line_feed)) [ inl e ↦ rw e (no_more bs) | inr e ↦ rw e (no_more bs) ]

pub at_start : (before : List ℕ) → above Blank before before ≡ comments true before
at_start before = sym (c_begins before)

-- a byte that ends no line
on_line : (line : Line) (met : List ℕ) (b : ℕ) (bs : List ℕ) → (b == line_feed) ≡ false → above (line_with line b) met bs ≡ above line met (b ∷ bs)
on_line line met b bs e =
    let later : comments false (b ∷ bs) ≡ comments false bs = c_later b bs ∙ ap (λ begins. comments begins bs) e in
    let same : go_on line (b ∷ bs) ≡ go_on (line_with line b) bs = ap (λ t. go_on (cond t (line_ended line) (line_with line b)) bs) e in
    ap (cond (go_on (line_with line b) bs) met) (sym later) ∙ ap (λ t. cond t met (comments false (b ∷ bs))) (sym same)

same_start : (line : Line) (start b next : ℕ) → (b == line_feed) ≡ false → start_after start line b next ≡ start
same_start Blank start b next e = rw e refl
same_start Comment start b next e = refl
same_start Commented start b next e = refl
same_start Other start b next e = rw e refl

same : (line : Line) (before : List ℕ) (start i b : ℕ) (bs : List ℕ) → (b == line_feed) ≡ false → above (line_after line b) (drop (start_after start line b (i + 1)) before) bs ≡ above line (drop start before) (b ∷ bs)
same line before start i b bs e =
    let with : line_after line b ≡ line_with line b = ap (λ t. cond t Blank (line_with line b)) e in
    ap (λ x. above x (drop (start_after start line b (i + 1)) before) bs) with
    ∙ ap (λ s. above (line_with line b) (drop s before) bs) (same_start line start b (i + 1) e)
    ∙ on_line line (drop start before) b bs e

-- a byte that ends a line
next_line : (bs : List ℕ) (b : ℕ) → (b == line_feed) ≡ true → comments false (b ∷ bs) ≡ above Blank bs bs
next_line bs b e = c_later b bs ∙ ap (λ begins. comments begins bs) e ∙ c_begins bs

met_more : (t : Bool) (met bs rest : List ℕ) → cond t met rest ≡ cond t met (cond t bs rest)
met_more true met bs rest = refl
met_more false met bs rest = refl

ended : (line : Line) (met bs : List ℕ) (b : ℕ) → (b == line_feed) ≡ true → line_ended line ≡ Blank → above Blank met bs ≡ above line met (b ∷ bs)
ended line met bs b e blank =
    let goes : go_on line (b ∷ bs) ≡ go_on Blank bs = ap (λ t. go_on (cond t (line_ended line) (line_with line b)) bs) e ∙ ap (λ x. go_on x bs) blank in
    met_more (go_on Blank bs) met bs (comments false bs)
    ∙ ap (cond (go_on Blank bs) met) (sym (next_line bs b e))
    ∙ ap (λ t. cond t met (comments false (b ∷ bs))) (sym goes)

ends_line : (line : Line) (b : ℕ) → (b == line_feed) ≡ true → line_after line b ≡ Blank
ends_line line b e = ap (λ t. cond t Blank (line_with line b)) e

broken_other : (line : Line) (before : List ℕ) (start i b : ℕ) (bs : List ℕ) → bs ≡ drop (i + 1) before → (b == line_feed) ≡ true → start_after start line b (i + 1) ≡ i + 1 → line_ended line ≡ Other → above (line_after line b) (drop (start_after start line b (i + 1)) before) bs ≡ above line (drop start before) (b ∷ bs)
broken_other line before start i b bs rest e moved other =
    let goes : go_on line (b ∷ bs) ≡ false = ap (λ t. go_on (cond t (line_ended line) (line_with line b)) bs) e ∙ ap (λ x. go_on x bs) other ∙ no_more bs in
    ap (λ x. above x (drop (start_after start line b (i + 1)) before) bs) (ends_line line b e)
    ∙ ap (λ s. above Blank (drop s before) bs) moved
    ∙ ap (λ m. above Blank m bs) (sym rest)
    ∙ sym (next_line bs b e)
    ∙ ap (λ t. cond t (drop start before) (comments false (b ∷ bs))) (sym goes)

broken : (line : Line) (before : List ℕ) (start i b : ℕ) (bs : List ℕ) → bs ≡ drop (i + 1) before → (b == line_feed) ≡ true → above (line_after line b) (drop (start_after start line b (i + 1)) before) bs ≡ above line (drop start before) (b ∷ bs)
broken Comment before start i b bs rest e =
    ap (λ x. above x (drop start before) bs) (ends_line Comment b e) ∙ ended Comment (drop start before) bs b e refl
broken Commented before start i b bs rest e =
    ap (λ x. above x (drop start before) bs) (ends_line Commented b e) ∙ ended Commented (drop start before) bs b e refl
broken Blank before start i b bs rest e = broken_other Blank before start i b bs rest e (rw e refl) refl
broken Other before start i b bs rest e = broken_other Other before start i b bs rest e (rw e refl) refl

passed : (line : Line) (before : List ℕ) (start i b : ℕ) (bs : List ℕ) → bs ≡ drop (i + 1) before → above (line_after line b) (drop (start_after start line b (i + 1)) before) bs ≡ above line (drop start before) (b ∷ bs)
passed line before start i b bs rest =
    elim (cases_Bool (b == line_feed)) [
      | inl e ↦ broken line before start i b bs rest e
      | inr e ↦ same line before start i b bs e
    ]

pub below : (line : Line) (start b next : ℕ) → start ≤ next → start_after start line b next ≤ next
below Comment start b next h = h
below Commented start b next h = h
below Blank start b next h = elim (cases_Bool (b == line_feed)) [ inl e ↦ rw e (omega arith) | inr e ↦ rw e h ]
below Other start b next h = elim (cases_Bool (b == line_feed)) [ inl e ↦ rw e (omega arith) | inr e ↦ rw e h ]

pub step : (line : Line) (before : List ℕ) (start i : ℕ) → i < length before → above line (drop start before) (drop i before) ≡ comments true before → above (line_after line (get_or before i 0)) (drop (start_after start line (get_or before i 0) (i + 1)) before) (drop (i + 1) before) ≡ comments true before
step line before start i h inv =
    let here : drop i before ≡ get_or before i 0 ∷ drop (i + 1) before = rw (add-one, drop-cons before i 0) refl in
    passed line before start i (get_or before i 0) (drop (i + 1) before) refl ∙ (rw (← here) inv)

-- at the end
pub blank_end : (before : List ℕ) (start i : ℕ) → length before ≤ i → above Blank (drop start before) (drop i before) ≡ comments true before → drop start before ≡ comments true before
blank_end before start i h inv =
    let z : drop i before ≡ [] = grind (arith, common_steps) in
    rw z at inv

pub other_end : (line : Line) (before : List ℕ) (start i : ℕ) → length before ≤ i → go_on line [] ≡ false → above line (drop start before) (drop i before) ≡ comments true before → drop (length before) before ≡ comments true before
other_end line before start i h none inv =
    let z : drop i before ≡ [] = grind (arith, common_steps) in
    let all : drop (length before) before ≡ [] = grind (arith, common_steps) in
    all ∙ sym (c_nil false) ∙ (rw (z, none) at inv)

pub not_blank : (line : Line) → (line ≡ Comment) ⊎ ((line ≡ Commented) ⊎ (line ≡ Other)) → is_blank line ≡ false
not_blank line (inl e) = ap is_blank e
not_blank line (inr (inl e)) = ap is_blank e
not_blank line (inr (inr e)) = ap is_blank e
