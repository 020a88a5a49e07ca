-- What stands at an offset of a text, by its bytes from there on.
use Rattle.std.proofs.Common.{◌≡◌, ℕ, zero, suc, ◌+◌, ◌-◌, ◌<◌, ◌≤◌, List, [], ◌∷◌, Bool, true, false, cond, None, length, drop, get_or, refl, sym, ap, subst, ⊎_elim, ◌∙◌, ◌&&◌, eqb, arith, add-one, length-drop}
use Rattle.std.specs.List.{prefix_len, take_while}
use Rattle.std.proofs.lemmas.Bool.{cases_Bool, cases_lt, ne_eqb}
use Rattle.std.proofs.lemmas.List.Sums.{prefix_len-le-length}
use Rattle.std.proofs.lemmas.List.{drop_more, drop_all, drop-drop}
use Rattle.isle_base.specs.Skips.{Inside, Skip, blank, line_comment, block_comment, is_blank, in_line, begins_with, opens, closes}
use Rattle.isle_base.specs.Literals.{prefix_radix, radix_of}
use Rattle.isle_base.specs.Reads.{IsUnskipped}
use Rattle.isle_base.proofs.Bytes.{opens_not}
use Rattle.isle_base.proofs.Comments.{Insides, opens_as, closes_as, insides_open, open_insides, insides_close, close_insides, insides_byte, byte_insides, insides_nil, Inside-shorter}
use Rattle.isle_base.proofs.Runs.{longest_from, prefix_len-yes, prefix_len-no}

pub drop_two : (bytes : List ℕ) (at : ℕ) → at + 1 < length bytes → drop at bytes ≡ get_or bytes at 0 ∷ get_or bytes (at + 1) 0 ∷ drop (at + 2) bytes
drop_two bytes at h =
    let next : drop (at + 1) bytes ≡ get_or bytes (at + 1) 0 ∷ drop (at + 1 + 1) bytes = drop_more bytes (at + 1) 0 h in
    let sum : at + 1 + 1 ≡ at + 2 = omega arith in
    drop_more bytes at 0 (omega arith) ∙ ap (λ xs. get_or bytes at 0 ∷ xs) (next ∙ ap (λ n. get_or bytes (at + 1) 0 ∷ drop n bytes) sum)

pub opens_pair : (bytes : List ℕ) (at : ℕ) → at + 1 < length bytes → opens (drop at bytes) ≡ (eqb (get_or bytes at 0) 40 && eqb (get_or bytes (at + 1) 0) 59)
opens_pair bytes at h = ap opens (drop_two bytes at h)

pub closes_pair : (bytes : List ℕ) (at : ℕ) → at + 1 < length bytes → closes (drop at bytes) ≡ (eqb (get_or bytes at 0) 59 && eqb (get_or bytes (at + 1) 0) 41)
closes_pair bytes at h = ap closes (drop_two bytes at h)

drop_last : (bytes : List ℕ) (at : ℕ) → at < length bytes → length bytes ≤ at + 1 → drop at bytes ≡ get_or bytes at 0 ∷ []
drop_last bytes at h short = drop_more bytes at 0 h ∙ ap (λ xs. get_or bytes at 0 ∷ xs) (drop_all (at + 1) bytes short)

pub opens_end : (bytes : List ℕ) (at : ℕ) → length bytes ≤ at + 1 → opens (drop at bytes) ≡ false
opens_end bytes at short =
    ⊎_elim (λ h. ap opens (drop_last bytes at h short)) (λ past. ap opens (drop_all at bytes past)) (cases_lt at (length bytes))

pub closes_end : (bytes : List ℕ) (at : ℕ) → length bytes ≤ at + 1 → closes (drop at bytes) ≡ false
closes_end bytes at short =
    ⊎_elim (λ h. ap closes (drop_last bytes at h short)) (λ past. ap closes (drop_all at bytes past)) (cases_lt at (length bytes))

-- what is found here goes on after it
pair_here : (bytes : List ℕ) (at a b : ℕ) (rest : List ℕ) → drop at bytes ≡ a ∷ b ∷ rest → drop at bytes ≡ a ∷ b ∷ drop (at + 2) bytes
pair_here bytes at a b rest e =
    let behind : rest ≡ drop (at + 2) bytes = sym (ap (drop 2) e) ∙ drop-drop 2 at bytes in
    e ∙ ap (λ xs. a ∷ b ∷ xs) behind

pub opens_here : (bytes : List ℕ) (at : ℕ) → opens (drop at bytes) ≡ true → drop at bytes ≡ 40 ∷ 59 ∷ drop (at + 2) bytes
opens_here bytes at h = let shape = opens_as (drop at bytes) h in pair_here bytes at 40 59 shape.0 shape.1

pub closes_here : (bytes : List ℕ) (at : ℕ) → closes (drop at bytes) ≡ true → drop at bytes ≡ 59 ∷ 41 ∷ drop (at + 2) bytes
closes_here bytes at h = let shape = closes_as (drop at bytes) h in pair_here bytes at 59 41 shape.0 shape.1

pub opens_room : (bytes : List ℕ) (at : ℕ) → opens (drop at bytes) ≡ true → at + 2 ≤ length bytes
opens_room bytes at h = omega (arith, ap length (opens_as (drop at bytes) h).1, length-drop at bytes)

pub closes_room : (bytes : List ℕ) (at : ℕ) → closes (drop at bytes) ≡ true → at + 2 ≤ length bytes
closes_room bytes at h = omega (arith, ap length (closes_as (drop at bytes) h).1, length-drop at bytes)

-- A walk through a block comment: from its inside on, so many ends are to come. Where the walk
-- stands, so many comments are open, and the end of the outermost is that of the whole.
pub record Walk (bytes : List ℕ) (from at depth : ℕ) : Type 0 where
  pub forth : (rest : List ℕ) → Insides depth (drop at bytes) rest → Inside (drop from bytes) rest
  pub back : (rest : List ℕ) → Inside (drop from bytes) rest → Insides depth (drop at bytes) rest

pub walk_start : (bytes : List ℕ) (from : ℕ) → Walk bytes from from 1
walk_start bytes from = record {
  forth = λ rest i. subst (λ xs. Inside (drop from bytes) xs) i.2 i.1;
  back = λ rest i. (rest, i, refl);
}

along : {bytes : List ℕ} {from at next depth more : ℕ} → Walk bytes from at depth → ((rest : List ℕ) → Insides more (drop next bytes) rest → Insides depth (drop at bytes) rest) → ((rest : List ℕ) → Insides depth (drop at bytes) rest → Insides more (drop next bytes) rest) → Walk bytes from next more
along w f g = record { forth = λ rest i. w.forth rest (f rest i); back = λ rest i. g rest (w.back rest i) }

pub walk_open : (bytes : List ℕ) (from at depth : ℕ) → Walk bytes from at depth → 0 < depth → opens (drop at bytes) ≡ true → Walk bytes from (at + 2) (depth + 1)
walk_open bytes from at zero w h is = absurd (omega arith)
walk_open bytes from at (suc n) w h is =
    rw add-one (along w (λ rest. open_insides n rest (opens_here bytes at is)) (λ rest. insides_open n rest (opens_here bytes at is)))

pub walk_close : (bytes : List ℕ) (from at depth : ℕ) → Walk bytes from at depth → 0 < depth → closes (drop at bytes) ≡ true → Walk bytes from (at + 2) (depth - 1)
walk_close bytes from at zero w h is = absurd (omega arith)
walk_close bytes from at (suc n) w h is =
    let pred : suc n - 1 ≡ n = omega arith in
    rw pred (along w (λ rest. close_insides n rest (closes_here bytes at is)) (λ rest. insides_close n rest (closes_here bytes at is)))

pub walk_byte : (bytes : List ℕ) (from at depth : ℕ) → Walk bytes from at depth → 0 < depth → opens (drop at bytes) ≡ false → closes (drop at bytes) ≡ false → at < length bytes → Walk bytes from (at + 1) depth
walk_byte bytes from at zero w h no_open no_close short = absurd (omega arith)
walk_byte bytes from at (suc n) w h no_open no_close short =
    let here = drop_more bytes at 0 short in
    along w (λ rest. byte_insides n rest (get_or bytes at 0) here no_open no_close) (λ rest. insides_byte n rest (get_or bytes at 0) here no_open no_close)

pub walk_ends : (bytes : List ℕ) (from at depth : ℕ) → Walk bytes from at depth → depth ≡ 0 → Inside (drop from bytes) (drop at bytes)
walk_ends bytes from at zero w h = w.forth (drop at bytes) refl
walk_ends bytes from at (suc n) w h = absurd (omega arith)

pub walk_fails : (bytes : List ℕ) (from at depth : ℕ) → Walk bytes from at depth → 0 < depth → length bytes ≤ at → (rest : List ℕ) → Inside (drop from bytes) rest → ⊥
walk_fails bytes from at zero w h short rest i = omega arith
walk_fails bytes from at (suc n) w h short rest i = insides_nil n rest (drop_all at bytes short) (w.back rest i)

-- one part of a skip, and the skip after it
pub skip_block : (bytes : List ℕ) (at end : ℕ) → opens (drop at bytes) ≡ true → Inside (drop (at + 2) bytes) (drop end bytes) → (rest : List ℕ) → Skip (drop end bytes) rest → Skip (drop at bytes) rest
skip_block bytes at end h i rest s = block_comment (opens_here bytes at h) i s

pub skip_line : (bytes : List ℕ) (at end : ℕ) → drop at bytes ≡ 59 ∷ drop (at + 1) bytes → end ≡ at + 1 + prefix_len in_line (drop (at + 1) bytes) → (rest : List ℕ) → Skip (drop end bytes) rest → Skip (drop at bytes) rest
skip_line bytes at end e h rest s = line_comment (take_while in_line (drop (at + 1) bytes)) e (longest_from in_line bytes (at + 1) end h) s

blanks : (text : List ℕ) (n : ℕ) → n ≡ prefix_len is_blank text → (rest : List ℕ) → Skip (drop n text) rest → Skip text rest
blanks [] zero h rest s = s
blanks [] (suc n) h rest s = s
blanks (b ∷ text) zero h rest s = s
blanks (b ∷ text) (suc n) h rest s =
    ⊎_elim
    (λ is. let less : n ≡ prefix_len is_blank text = let whole = h ∙ prefix_len-yes is_blank b text is in omega arith in blank b refl is (blanks text n less rest s))
    (λ isnt. let none = h ∙ prefix_len-no is_blank b text isnt in absurd (omega arith))
    (cases_Bool (is_blank b))

pub skip_blanks : (bytes : List ℕ) (at end b : ℕ) → drop at bytes ≡ b ∷ drop (at + 1) bytes → is_blank b ≡ true → end ≡ at + 1 + prefix_len is_blank (drop (at + 1) bytes) → (rest : List ℕ) → Skip (drop end bytes) rest → Skip (drop at bytes) rest
skip_blanks bytes at end b e is h rest s =
    let same : drop end bytes ≡ drop (prefix_len is_blank (drop (at + 1) bytes)) (drop (at + 1) bytes) = ap (λ n. drop n bytes) h ∙ sym (drop-drop (prefix_len is_blank (drop (at + 1) bytes)) (at + 1) bytes) in
    blank b e is (blanks (drop (at + 1) bytes) (prefix_len is_blank (drop (at + 1) bytes)) refl rest (subst (λ xs. Skip xs rest) same s))

pub comment_further : (bytes : List ℕ) (at end : ℕ) → end ≤ length bytes → Inside (drop at bytes) (drop end bytes) → at < end
comment_further bytes at end h i = omega (arith, Inside-shorter i, length-drop at bytes, length-drop end bytes)

pub run_within : (kind : ℕ → Bool) (bytes : List ℕ) (from end : ℕ) → from ≤ length bytes → end ≡ from + prefix_len kind (drop from bytes) → end ≤ length bytes
run_within kind bytes from end h e = omega (arith, prefix_len-le-length kind (drop from bytes), length-drop from bytes)

pub unskipped_end : (text : List ℕ) → text ≡ [] → IsUnskipped text
unskipped_end text e = subst IsUnskipped (sym e) (record { not_blank = refl; no_line = refl; no_block = refl })

pub unskipped_open : (text : List ℕ) (b : ℕ) (rest : List ℕ) → text ≡ b ∷ rest → b ≡ 40 → opens text ≡ false → IsUnskipped text
unfolding is_blank
unskipped_open text b rest e opening no_block = record {
  not_blank = ap (begins_with is_blank) e ∙ ap is_blank opening;
  no_line = ap (begins_with (λ c. eqb c 59)) e ∙ ap (λ c. eqb c 59) opening;
  no_block = no_block;
}

-- a byte at which no skip can begin
pub unskipped_byte : (text : List ℕ) (b : ℕ) (rest : List ℕ) → text ≡ b ∷ rest → (b ≡ 32 → ⊥) → (b ≡ 9 → ⊥) → (b ≡ 10 → ⊥) → (b ≡ 13 → ⊥) → (b ≡ 59 → ⊥) → (b ≡ 40 → ⊥) → IsUnskipped text
unfolding is_blank
unskipped_byte text b rest e no_space no_tab no_feed no_return no_line no_open = record {
  not_blank = ap (begins_with is_blank) e ∙ rw (ne_eqb b 32 no_space, ne_eqb b 9 no_tab, ne_eqb b 10 no_feed, ne_eqb b 13 no_return) refl;
  no_line = ap (begins_with (λ c. eqb c 59)) e ∙ ne_eqb b 59 no_line;
  no_block = ap opens e ∙ opens_not b rest (ne_eqb b 40 no_open);
}

pub prefix_pair : (bytes : List ℕ) (at : ℕ) → at + 1 < length bytes → prefix_radix (drop at bytes) ≡ cond (eqb (get_or bytes at 0) 48) (radix_of (get_or bytes (at + 1) 0)) None
prefix_pair bytes at h = ap prefix_radix (drop_two bytes at h)

pub prefix_end : (bytes : List ℕ) (at : ℕ) → length bytes ≤ at + 1 → prefix_radix (drop at bytes) ≡ None
prefix_end bytes at short =
    ⊎_elim (λ h. ap prefix_radix (drop_last bytes at h short)) (λ past. ap prefix_radix (drop_all at bytes past)) (cases_lt at (length bytes))
