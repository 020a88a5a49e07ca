-- The blank or the comment at an offset of a text, and the comments behind it.
use Rattle.std.proofs.Common.{◌≡◌, ℕ, suc, ◌+◌, ◌-◌, ◌<◌, ◌≤◌, List, [], ◌∷◌, ◌++◌, Bool, true, false, ◌==◌, Option, Some, None, length, get_or, take, drop, refl, sym, ◌∙◌, ap, subst, arith}
use Rattle.std.specs.List.{prefix_len, take_while}
use Rattle.std.specs.Prelude.{slice_range}
use Rattle.std.proofs.lemmas.Bool.{both_ways, eqb-true, ne_eqb}
use Rattle.std.proofs.lemmas.List.{drop_all, drop_more}
use Rattle.isle_base.specs.Bytes.{left_parenthesis, semicolon}
use Rattle.isle_base.specs.Reads.{EndsComment}
use Rattle.isle_base.specs.Skips.{Inside, begins_with as begins, in_line, is_blank, opens}
use Rattle.isle_base.proofs.Places.{comment_further, opens_here, opens_room, run_within}
use Rattle.isle_base.proofs.Runs.{longest_from}
use Rattle.isle_program.specs.Allowances.{Comments, IsBare, Passes, begins_with, blank, block_comment, line_at, line_comment}

here : (text : List ℕ) (at b : ℕ) → at < length text → get_or text at 0 ≡ b → drop at text ≡ b ∷ drop (at + 1) text
here text at b short is = drop_more text at 0 short ∙ ap (λ c. c ∷ drop (at + 1) text) is

no_line_at : (text : List ℕ) (at end : ℕ) → (get_or text at 0 == semicolon) ≡ false → line_at text at end ≡ []
no_line_at text at end other = rw other refl

is_blank-semicolon : is_blank 59 ≡ false
unfolding is_blank
is_blank-semicolon = refl

not_semicolon : (b : ℕ) → is_blank b ≡ true → (b == semicolon) ≡ false
not_semicolon b is = ne_eqb b semicolon (λ e. both_ways (is_blank b) (ap is_blank e ∙ is_blank-semicolon) is)

pub pass_blank : (text : List ℕ) (at : ℕ) → at < length text → is_blank (get_or text at 0) ≡ true → Passes text at (Some (at + 1))
pass_blank text at short is =
    (omega arith, omega arith, λ comments c. rw (no_line_at text at (at + 1) (not_semicolon (get_or text at 0) is)) (blank (get_or text at 0) (here text at _ short refl) is c))

take_suc : (n b : ℕ) (bs : List ℕ) → take (suc n) (b ∷ bs) ≡ b ∷ take n bs
take_suc n b bs = refl

line_here : (text : List ℕ) (at end : ℕ) → get_or text at 0 ≡ semicolon → line_at text at end ≡ slice_range text at end ∷ []
line_here text at end is = rw is refl

pub pass_line : (text : List ℕ) (at end : ℕ) → at < length text → get_or text at 0 ≡ semicolon → end ≡ at + 1 + prefix_len in_line (drop (at + 1) text) → Passes text at (Some end)
pass_line text at end short is e =
    let start = here text at semicolon short is in
    let count : end - at ≡ suc (prefix_len in_line (drop (at + 1) text)) = omega arith in
    let line : slice_range text at end ≡ semicolon ∷ take_while in_line (drop (at + 1) text) = ap (λ n. take n (drop at text)) count ∙ ap (take (suc (prefix_len in_line (drop (at + 1) text)))) start ∙ take_suc _ _ _ in (
      omega arith,
      run_within in_line text (at + 1) end (omega arith) e,
      λ comments c.
          rw (line_here text at end is, line) (line_comment (take_while in_line (drop (at + 1) text)) start (longest_from in_line text (at + 1) end e) c),
    )

first_of : (text : List ℕ) (at b : ℕ) (rest : List ℕ) → at < length text → drop at text ≡ b ∷ rest → get_or text at 0 ≡ b
first_of text at b rest short e = let is = sym (drop_more text at 0 short) ∙ e in cc

pass_block : (text : List ℕ) (at end : ℕ) → at < length text → opens (drop at text) ≡ true → Inside (drop (at + 2) text) (drop end text) → end ≤ length text → Passes text at (Some end)
pass_block text at end short opened inside within =
    let start = opens_here text at opened in
    let further = comment_further text (at + 2) end within inside in
    let other : (get_or text at 0 == semicolon) ≡ false = ne_eqb _ semicolon (λ e. omega (arith, e, first_of text at 40 _ short start)) in
    (omega (arith, further), within, λ comments c. rw (no_line_at text at end other) (block_comment start inside c))

pub bare_end : (text : List ℕ) (at : ℕ) → length text ≤ at → IsBare (drop at text)
bare_end text at past = subst IsBare (sym (drop_all at text past)) (record { no_blank = refl; no_line = refl; no_block = λ inner rest e i. cc })

opens_true : (inner : List ℕ) → opens (40 ∷ 59 ∷ inner) ≡ true
opens_true inner = refl

is_blank-parenthesis : is_blank 40 ≡ false
unfolding is_blank
is_blank-parenthesis = refl

bare_open : (text : List ℕ) (at : ℕ) → opens (drop at text) ≡ true → ((rest : List ℕ) → Inside (drop (at + 2) text) rest → ⊥) → IsBare (drop at text)
bare_open text at opened none =
    let start = opens_here text at opened in
    record {
      no_blank = ap (begins is_blank) start ∙ is_blank-parenthesis;
      no_line = ap (begins_with semicolon) start;
      no_block = λ inner rest e i. let same : inner ≡ drop (at + 2) text = (let both = sym e ∙ start in cc) in none rest (subst (λ xs. Inside xs rest) same i);
    }

pub bare_byte : (text : List ℕ) (at : ℕ) → at < length text → is_blank (get_or text at 0) ≡ false → (get_or text at 0 == semicolon) ≡ false → opens (drop at text) ≡ false → IsBare (drop at text)
bare_byte text at short no_blank no_line closed =
    let start = here text at (get_or text at 0) short refl in
    record {
      no_blank = ap (begins is_blank) start ∙ no_blank;
      no_line = ap (begins_with semicolon) start ∙ no_line;
      no_block = λ inner rest e i. both_ways (opens (drop at text)) closed (ap opens e);
    }

pub pass_opened : (text : List ℕ) (at : ℕ) (end : Option ℕ) → at < length text → opens (drop at text) ≡ true → EndsComment text (at + 2) end → Passes text at end
pass_opened text at None short opened none = bare_open text at opened none
pass_opened text at (Some end) short opened ends = pass_block text at end short opened ends.0 ends.1
