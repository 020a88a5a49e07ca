-- Printable bytes are one column each.
use Rattle.std.proofs.Common.{◌≡◌, ℕ, zero, suc, ◌+◌, ◌≤◌, List, [], ◌∷◌, true, ◌&&◌, ◌||◌, cond, length, take, Result, Ok, Err, IfOk, refl, sym, ap, ap₂, subst, ⊎_elim, ◌∙◌, eqb, leb, arith}
use Rattle.std.proofs.lemmas.Bool.{and_parts, cases_Bool, cond_both, leb-true, lt-leb, ne_eqb}
use Rattle.std.specs.List.{list_all, prefix_len}
use Rattle.isle_tidy_layout.specs.Columns.{is_printable, IsPrintable}
use Rattle.isle_tidy_layout.specs.Entries.{Lexeme, opening, closing, at_sign, atom, line_comment, block_comment}
use Rattle.isle_tidy_layout.specs.Stack.{IsSmall}
use Rattle.isle_tidy_layout.specs.Writing.{spelling}
use Rattle.isle_tidy_layout.specs.declared.columns.Columns.{Columns}
use Rattle.isle_tidy_layout.specs.Placing.{before_trimmed, trimmed, tidied, column_after}

one_column : (b c : ℕ) → is_printable b ≡ true → cond (eqb b 10 || eqb b 13) 0 (cond (leb 128 b && leb b 191) c (suc c)) ≡ suc c
unfolding is_printable
one_column b c h =
    let parts = and_parts (leb 32 b) (leb b 126) h in
    let low = leb-true 32 b parts.0 in
    let high = leb-true b 126 parts.1 in
    rw (ne_eqb b 10 (λ e. omega (arith, low, e)), ne_eqb b 13 (λ e. omega (arith, low, e)), lt-leb 128 b (omega (arith, high))) refl

pub printable_columns : (c : ℕ) (bs : List ℕ) → list_all is_printable bs ≡ true → column_after c bs ≡ c + length bs
printable_columns c [] h = omega arith
printable_columns c (b ∷ bs) h =
    let parts = and_parts (is_printable b) (list_all is_printable bs) h in
    ap (λ n. column_after n bs) (one_column b c parts.0) ∙ printable_columns (suc c) bs parts.1 ∙ omega arith

before_printable : (b : ℕ) (bs : List ℕ) → is_printable b ≡ true → list_all is_printable bs ≡ true → list_all is_printable (before_trimmed b bs) ≡ true
before_printable b [] h k =
    cond_both (eqb b 32 || eqb b 9) [] (b ∷ []) (λ xs. list_all is_printable xs ≡ true) (λ _. refl) (λ _. rw h refl)
before_printable b (c ∷ cs) h k = rw h k

pub printable_trimmed : (bs : List ℕ) → list_all is_printable bs ≡ true → list_all is_printable (trimmed bs) ≡ true
printable_trimmed [] h = refl
printable_trimmed (b ∷ bs) h =
    let parts = and_parts (is_printable b) (list_all is_printable bs) h in before_printable b (trimmed bs) parts.0 (printable_trimmed bs parts.1)

printable_tidied : (x : Lexeme) → IsPrintable x → IsPrintable (tidied x)
printable_tidied opening h = h
printable_tidied closing h = h
printable_tidied at_sign h = h
printable_tidied (atom bs) h = h
printable_tidied (line_comment bs) h = let parts = and_parts (is_printable 59) (list_all is_printable bs) h in rw parts.0 (printable_trimmed bs parts.1)
printable_tidied (block_comment bs) h = h

-- the columns behind a printable lexeme
pub after_moved : {E : Type 0} (x : Lexeme) (at : Columns) (by_source by_result : ℕ) (moved : Result Columns E) → IsPrintable x → length (spelling x) ≡ by_source → length (spelling (tidied x)) ≡ by_result
    → IfOk moved (λ r. IsSmall r × (r ≡ record { source = at.source + by_source; result = at.result + by_result }))
    → IfOk moved (λ r. IsSmall r × (r ≡ record { source = column_after at.source (spelling x); result = column_after at.result (spelling (tidied x)) }))
after_moved x at by_source by_result (Err fault) printable d e f = tt
after_moved x at by_source by_result (Ok r) printable d e f =
    let source : column_after at.source (spelling x) ≡ at.source + by_source = printable_columns at.source (spelling x) printable ∙ ap (λ n. at.source + n) d in
    let result : column_after at.result (spelling (tidied x)) ≡ at.result + by_result = printable_columns at.result (spelling (tidied x)) (printable_tidied x printable) ∙ ap (λ n. at.result + n) e in
    (f.0, f.1 ∙ ap₂ (λ (s t : ℕ). let c : Columns = record { source = s; result = t } in c) (sym source) (sym result))

-- a run that goes as far as this is printable
pub run_printable : (n : ℕ) (bs : List ℕ) → n ≤ prefix_len is_printable bs → list_all is_printable (take n bs) ≡ true
run_printable zero bs h = refl
run_printable (suc n) [] h = refl
run_printable (suc n) (b ∷ bs) h =
    ⊎_elim (λ is. let more : suc n ≤ 1 + prefix_len is_printable bs = subst (λ k. suc n ≤ cond k (1 + prefix_len is_printable bs) 0) is h in rw is (run_printable n bs (omega arith)))
    (λ no. let none : suc n ≤ 0 = subst (λ k. suc n ≤ cond k (1 + prefix_len is_printable bs) 0) no h in absurd (omega arith)) (cases_Bool (is_printable b))
