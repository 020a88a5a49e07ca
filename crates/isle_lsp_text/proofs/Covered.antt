-- What covers a text, part by part.
use Rattle.std.proofs.Common.{◌≡◌, ℕ, suc, ◌+◌, ◌-◌, ◌<◌, ◌≤◌, List, [], ◌∷◌, ◌++◌, true, false, ◌==◌, replicate, length, get_or, take, drop, refl, sym, ◌∙◌, ap, subst, arith, length-drop}
use Rattle.std.specs.List.{prefix_len}
use Rattle.std.specs.Prelude.{slice_range}
use Rattle.std.proofs.lemmas.List.{drop_all, drop_more}
use Rattle.isle_base.specs.Bytes.{left_parenthesis, semicolon}
use Rattle.isle_base.specs.Skips.{Inside, Longest, in_line, opens}
use Rattle.isle_base.proofs.Places.{opens_here}
use Rattle.isle_base.proofs.Runs.{longest_from}
use Rattle.isle_lsp_text.specs.Comments.{Covers, IsCovered, nothing, block_comment, unended, line_comment, byte}

covered_nil : {text covered : List ℕ} → IsCovered text covered → text ≡ [] → covered ≡ []
covered_nil nothing e = refl
covered_nil (block_comment is i c) e = cc
covered_nil (unended is none) e = cc
covered_nil (line_comment is l c) e = cc
covered_nil (byte b is o s c) e = cc

pub covers_block : (text : List ℕ) (at end : ℕ) → opens (drop at text) ≡ true → Inside (drop (at + 2) text) (drop end text) → at < length text → end ≤ length text → Covers text at end (replicate (end - at) left_parenthesis)
covers_block text at end opened inside short within rest c =
    let count : length (drop at text) - length (drop end text) ≡ end - at = omega (arith, length-drop at text, length-drop end text) in
    subst (λ n. IsCovered (drop at text) (replicate n left_parenthesis ++ rest)) count (block_comment (opens_here text at opened) inside c)

append_nil : (xs : List ℕ) → xs ++ [] ≡ xs
append_nil [] = refl
append_nil (x ∷ xs) = ap (λ l. x ∷ l) (append_nil xs)

pub covers_open : (text : List ℕ) (at : ℕ) → opens (drop at text) ≡ true → ((rest : List ℕ) → Inside (drop (at + 2) text) rest → ⊥) → Covers text at (length text) (replicate (length text - at) left_parenthesis)
covers_open text at opened none rest c =
    let over : rest ≡ [] = covered_nil c (drop_all (length text) text (omega arith)) in
    let all : replicate (length text - at) left_parenthesis ++ rest ≡ replicate (length (drop at text)) left_parenthesis =
    ap (λ l. replicate (length text - at) left_parenthesis ++ l) over ∙ append_nil _ ∙ ap (λ n. replicate n left_parenthesis) (sym (length-drop at text)) in
    subst (IsCovered (drop at text)) (sym all) (unended (opens_here text at opened) none)

pub covers_byte : (text : List ℕ) (at : ℕ) → at < length text → opens (drop at text) ≡ false → (get_or text at 0 == semicolon) ≡ false → Covers text at (at + 1) (slice_range text at (at + 1))
covers_byte text at short closed other rest c =
    let here : drop at text ≡ get_or text at 0 ∷ drop (at + 1) text = drop_more text at 0 short in
    let count : at + 1 - at ≡ 1 = omega arith in
    let one : slice_range text at (at + 1) ≡ get_or text at 0 ∷ [] = ap (λ n. take n (drop at text)) count ∙ ap (take 1) here in
    subst (λ part. IsCovered (drop at text) (part ++ rest)) (sym one) (byte (get_or text at 0) here closed other c)

take_suc : (n : ℕ) (b : ℕ) (bs : List ℕ) → take (suc n) (b ∷ bs) ≡ b ∷ take n bs
take_suc n b bs = refl

pub covers_line : (text : List ℕ) (at end : ℕ) → at < length text → get_or text at 0 ≡ semicolon → end ≡ at + 1 + prefix_len in_line (drop (at + 1) text) → Covers text at end (slice_range text at end)
covers_line text at end short is e rest c =
    let here : drop at text ≡ semicolon ∷ drop (at + 1) text = drop_more text at 0 short ∙ ap (λ b. b ∷ drop (at + 1) text) is in
    let count : end - at ≡ suc (prefix_len in_line (drop (at + 1) text)) = omega arith in
    let long : Longest in_line (drop (at + 1) text) (take (prefix_len in_line (drop (at + 1) text)) (drop (at + 1) text)) (drop end text) = longest_from in_line text (at + 1) end e in
    let line : slice_range text at end ≡ semicolon ∷ take (prefix_len in_line (drop (at + 1) text)) (drop (at + 1) text) =
    ap (λ n. take n (drop at text)) count ∙ ap (take (suc (prefix_len in_line (drop (at + 1) text)))) here ∙ take_suc _ _ _ in
    subst (λ part. IsCovered (drop at text) (part ++ rest)) (sym line) (line_comment here long c)

-- ---- the walk
pub covers_none : (text : List ℕ) → Covers text 0 0 []
covers_none text rest c = c

append_assoc : (xs ys zs : List ℕ) → (xs ++ ys) ++ zs ≡ xs ++ (ys ++ zs)
append_assoc [] ys zs = refl
append_assoc (x ∷ xs) ys zs = ap (λ l. x ∷ l) (append_assoc xs ys zs)

pub covers_more : (text : List ℕ) (at end : ℕ) (done part : List ℕ) → Covers text 0 at done → Covers text at end part → Covers text 0 end (done ++ part)
covers_more text at end done part a b rest c = subst (IsCovered (drop 0 text)) (sym (append_assoc done part rest)) (a (part ++ rest) (b rest c))

pub covers_all : (text : List ℕ) (at : ℕ) (done : List ℕ) → Covers text 0 at done → length text ≤ at → IsCovered text done
covers_all text at done a h =
    let over : drop at text ≡ [] = drop_all at text h in
    subst (IsCovered text) (append_nil done) (a [] (subst (λ xs. IsCovered xs []) (sym over) nothing))
