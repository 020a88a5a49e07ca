-- What stands at an offset, by what the lexer's calls find there.
use Rattle.std.proofs.Common.{◌≡◌, ℕ, ◌+◌, ◌-◌, ◌<◌, ◌≤◌, List, ◌∷◌, ◌++◌, Bool, true, false, ℤ, Some, drop, take, length, get_or, IsUtf8, lit<, refl, sym, ap, subst, ◌∙◌, eqb, arith, length-drop}
use Rattle.std.specs.List.{prefix_len}
use Rattle.std.proofs.lemmas.Bool.{eqb-true, ne_eqb}
use Rattle.std.proofs.lemmas.List.{drop-drop, take-append-drop, drop_more}
use Rattle.std.proofs.lemmas.Str.{IsUtf8-drop, IsCharBoundary-after_ascii}
use Rattle.isle_base.specs.Literals.{Literal}
use Rattle.isle_base.specs.Spellings.{Spelling, in_symbol, symbol_here}
use Rattle.isle_base.specs.Skips.{Skip, nothing, line_comment as line_skip, block_comment as block_skip, Inside, Longest, begins_with, in_line, is_blank, opens}
use Rattle.isle_base.specs.Reads.{IsUnskipped}
use Rattle.isle_base.proofs.Bytes.{opens_not}
use Rattle.isle_base.specs.Token.{symbol, integer}
use Rattle.isle_base.proofs.Complete.{Spelling-shorter}
use Rattle.isle_base.proofs.Found.{symbol_longest}
use Rattle.isle_base.proofs.Places.{opens_here, comment_further, run_within}
use Rattle.isle_base.proofs.Runs.{longest_from}
use Rattle.isle_base.proofs.Utf8.{Skip-utf8, Spelling-utf8}
use Rattle.isle_tidy_core.specs.Finds.{Stands}
use Rattle.isle_tidy_layout.specs.Entries.{opening, closing, atom, at_sign, line_comment, block_comment}

-- behind an ASCII byte
pub tail_utf8 : (b : ℕ) (rest : List ℕ) → b < 128 → IsUtf8 (b ∷ rest) → IsUtf8 rest
tail_utf8 b rest ascii utf8 =
    IsUtf8-drop (b ∷ rest) 1 utf8 (IsCharBoundary-after_ascii (b ∷ rest) 0 utf8 (omega arith) ascii)

pub split_at : (text : List ℕ) (from to : ℕ) → from ≤ to → drop from text ≡ take (to - from) (drop from text) ++ drop to text
split_at text from to h =
    let count : from + (to - from) ≡ to = omega arith in
    let behind : drop (to - from) (drop from text) ≡ drop to text = drop-drop (to - from) from text ∙ ap (λ n. drop n text) count in
    sym (take-append-drop (to - from) (drop from text)) ∙ ap (λ xs. take (to - from) (drop from text) ++ xs) behind

pub symbol_stands : (text : List ℕ) (from to : ℕ) → from ≤ length text → symbol_here (drop from text) ≡ true → to ≡ from + prefix_len in_symbol (drop from text) → IsUtf8 (drop from text) → Stands text (atom (take (to - from) (drop from text))) from to
symbol_stands text from to within begins e utf8 =
    let name = take (to - from) (drop from text) in
    let long = symbol_longest text from to name e refl in
    let p : Spelling (drop from text) (symbol name) (drop to text) = (begins, long) in
    let short = Spelling-shorter (drop from text) (symbol name) (drop to text) p in
    ((symbol name, refl, p, long.split), omega (arith, short, length-drop from text, length-drop to text), run_within in_symbol text from to within e, Spelling-utf8 (drop from text) (symbol name) (drop to text) p utf8)

pub integer_stands : (text : List ℕ) (from to : ℕ) (value : ℤ) → from ≤ length text → Literal (drop from text) (Some value) (drop to text) → to ≤ length text → IsUtf8 (drop from text) → Stands text (atom (take (to - from) (drop from text))) from to
integer_stands text from to value within p ends utf8 =
    let short = Spelling-shorter (drop from text) (integer value) (drop to text) p in
    let further : from < to = omega (arith, short, length-drop from text, length-drop to text) in
    ((integer value, refl, p, split_at text from to (omega arith)), further, ends, Spelling-utf8 (drop from text) (integer value) (drop to text) p utf8)

pub run_taken : (kind : ℕ → Bool) (text : List ℕ) (from to : ℕ) → to ≡ from + prefix_len kind (drop from text) → Longest kind (drop from text) (take (to - from) (drop from text)) (drop to text)
run_taken kind text from to e =
    let count : to - from ≡ prefix_len kind (drop from text) = omega arith in
    subst (λ xs. Longest kind (drop from text) xs (drop to text)) (sym (ap (λ n. take n (drop from text)) count)) (longest_from kind text from to e)

pub semicolon_here : (text : List ℕ) (at : ℕ) → at < length text → begins_with (λ b. eqb b 59) (drop at text) ≡ true → drop at text ≡ 59 ∷ drop (at + 1) text
semicolon_here text at short begins =
    let here = drop_more text at 0 short in
    let is = eqb-true (get_or text at 0) 59 (sym (ap (begins_with (λ b. eqb b 59)) here) ∙ begins) in
    here ∙ ap (λ b. b ∷ drop (at + 1) text) is

pub line_comment_stands : (text : List ℕ) (from to : ℕ) → from < length text → drop from text ≡ 59 ∷ drop (from + 1) text → to ≡ from + 1 + prefix_len in_line (drop (from + 1) text) → IsUtf8 (drop from text) → Stands text (line_comment (take (to - (from + 1)) (drop (from + 1) text))) from to
line_comment_stands text from to short here e utf8 =
    let long = run_taken in_line text (from + 1) to e in
    let skip : Skip (drop from text) (drop to text) = line_skip _ here long (nothing refl) in
    ((drop (from + 1) text, here, long), omega arith, run_within in_line text (from + 1) to (omega arith) e, Skip-utf8 skip utf8)

pub block_comment_stands : (text : List ℕ) (from to : ℕ) → opens (drop from text) ≡ true → Inside (drop (from + 2) text) (drop to text) → to ≤ length text → IsUtf8 (drop from text) → Stands text (block_comment (take (to - (from + 2)) (drop (from + 2) text))) from to
block_comment_stands text from to opened inside ends utf8 =
    let here = opens_here text from opened in
    let further = comment_further text (from + 2) to ends inside in
    let skip : Skip (drop from text) (drop to text) = block_skip here inside (nothing refl) in
    ((drop (from + 2) text, here, split_at text (from + 2) to (omega arith), inside), omega arith, ends, Skip-utf8 skip utf8)

pub at_sign_stands : (text : List ℕ) (from : ℕ) → from < length text → get_or text from 0 ≡ 64 → IsUtf8 (drop from text) → Stands text at_sign from (from + 1)
at_sign_stands text from short is utf8 =
    let here : drop from text ≡ 64 ∷ drop (from + 1) text = drop_more text from 0 short ∙ ap (λ b. b ∷ drop (from + 1) text) is in
    (here, omega arith, omega arith, tail_utf8 64 (drop (from + 1) text) (lit< tt) (subst IsUtf8 here utf8))

pub opening_stands : (text : List ℕ) (from : ℕ) → from < length text → begins_with (λ b. eqb b 40) (drop from text) ≡ true → opens (drop from text) ≡ false → IsUtf8 (drop from text) → Stands text opening from (from + 1)
opening_stands text from short begins no_comment utf8 =
    let here = drop_more text from 0 short in
    let is = eqb-true (get_or text from 0) 40 (sym (ap (begins_with (λ b. eqb b 40)) here) ∙ begins) in
    let at : drop from text ≡ 40 ∷ drop (from + 1) text = here ∙ ap (λ b. b ∷ drop (from + 1) text) is in
    ((at, no_comment), omega arith, omega arith, tail_utf8 40 (drop (from + 1) text) (lit< tt) (subst IsUtf8 at utf8))

pub closing_stands : (text : List ℕ) (from : ℕ) → from < length text → get_or text from 0 ≡ 41 → IsUtf8 (drop from text) → Stands text closing from (from + 1)
closing_stands text from short is utf8 =
    let here : drop from text ≡ 41 ∷ drop (from + 1) text = drop_more text from 0 short ∙ ap (λ b. b ∷ drop (from + 1) text) is in
    (here, omega arith, omega arith, tail_utf8 41 (drop (from + 1) text) (lit< tt) (subst IsUtf8 here utf8))

-- what a byte is not
pub unskipped : (text : List ℕ) (at : ℕ) → at < length text → begins_with is_blank (drop at text) ≡ false → (get_or text at 0 ≡ 59 → ⊥) → (get_or text at 0 ≡ 40 → ⊥) → IsUnskipped (drop at text)
unskipped text at short not_blank no_line no_open =
    let here = drop_more text at 0 short in
    record {
      not_blank = not_blank;
      no_line = ap (begins_with (λ b. eqb b 59)) here ∙ ne_eqb (get_or text at 0) 59 no_line;
      no_block = ap opens here ∙ opens_not (get_or text at 0) (drop (at + 1) text) (ne_eqb (get_or text at 0) 40 no_open);
    }
