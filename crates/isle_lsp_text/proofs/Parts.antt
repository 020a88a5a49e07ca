-- Parts of texts, and the lines at their front and at their end.
use Rattle.std.proofs.Common.{◌≡◌, ◌≢◌, ℕ, zero, suc, ◌+◌, ◌-◌, ◌≤◌, ◌<◌, ◌⊎◌, ◌==◌, Bool, true, false, if◌then◌else◌, inl, inr, List, [], ◌∷◌, ◌++◌, length, get_or, take, drop, refl, sym, ◌∙◌, ap, subst, arith, append_assoc, append-nil}
use Rattle.std.proofs.Math.Nat.{eq-or-lt_of_le}
use Rattle.std.proofs.lemmas.Bool.{cases_lt, cases_order}
use Rattle.std.proofs.lemmas.Bool.Decides.{nat_tests}
use Rattle.std.proofs.lemmas.List.{take-append-drop, drop-drop, drop-take, drop_more, get_or-drop, get_or-take}
use Rattle.std.proofs.lemmas.Grind.{common_steps}
use Rattle.isle_lsp_text.specs.declared.edits.Edit.{Edit}
use Rattle.isle_lsp_text.specs.Edits.{part, first_line, IsCut, IsLineStart, IsShorter}

pub part_none : (text : List ℕ) (i : ℕ) → part text i i ≡ []
part_none text i = let z : i - i ≡ 0 = omega arith in rw z refl

pub take_join : (a b : ℕ) (xs : List ℕ) → take a xs ++ take b (drop a xs) ≡ take (a + b) xs
take_join zero b xs = let z : 0 + b ≡ b = omega arith in rw z refl
take_join (suc a) b [] = grind (arith, common_steps)
take_join (suc a) b (x ∷ xs) = let z : suc a + b ≡ suc (a + b) = omega arith in rw z (ap (λ l. x ∷ l) (take_join a b xs))

pub drop_on : (text : List ℕ) (i p : ℕ) → i ≤ p → drop (p - i) (drop i text) ≡ drop p text
drop_on text i p h = let n : i + (p - i) ≡ p = omega arith in drop-drop (p - i) i text ∙ ap (λ x. drop x text) n

pub part_drop : (text : List ℕ) (i p : ℕ) → i ≤ p → p ≤ length text → part text i p ++ drop p text ≡ drop i text
part_drop text i p h l = ap (λ x. part text i p ++ x) (sym (drop_on text i p h)) ∙ take-append-drop (p - i) (drop i text)

pub part_part : (text : List ℕ) (i p q : ℕ) → i ≤ p → p ≤ q → q ≤ length text → part text i p ++ part text p q ≡ part text i q
part_part text i p q h k l =
    let n : (p - i) + (q - p) ≡ q - i = omega arith in
    ap (λ x. part text i p ++ take (q - p) x) (sym (drop_on text i p h)) ∙ take_join (p - i) (q - p) (drop i text) ∙ ap (λ x. take x (drop i text)) n

pub take_part : (text : List ℕ) (j q : ℕ) → j ≤ q → q ≤ length text → take j text ++ part text j q ≡ take q text
take_part text j q h l =
    let n : j + (q - j) ≡ q = omega arith in
    take_join j (q - j) text ∙ ap (λ x. take x text) n

pub length_part : (text : List ℕ) (i p : ℕ) → p ≤ length text → length (part text i p) ≡ p - i
length_part text i p l = grind (arith, common_steps)

-- ---- the first line

-- the first line goes on behind this offset
pub record IsAhead (text : List ℕ) (start end : ℕ) : Type 0 where
  pub order : start ≤ end
  pub within : end ≤ length text
  pub first : part text start end ++ first_line (drop end text) ≡ first_line (drop start text)

pub ahead_start : (text : List ℕ) (start : ℕ) → start ≤ length text → IsAhead text start start
ahead_start text start h = record { order = omega arith; within = h; first = ap (λ x. x ++ first_line (drop start text)) (part_none text start) }

part_one : (text : List ℕ) (end : ℕ) → end < length text → part text end (end + 1) ≡ get_or text end 0 ∷ []
part_one text end l = let n : (end + 1) - end ≡ 1 = omega arith in rw n (ap (take 1) (drop_more text end 0 l))

part_more : (text : List ℕ) (start end : ℕ) → start ≤ end → end < length text → part text start (end + 1) ≡ part text start end ++ get_or text end 0 ∷ []
part_more text start end h l =
    sym (part_part text start end (end + 1) h (omega arith) (omega arith)) ∙ ap (λ x. part text start end ++ x) (part_one text end l)

first_more : (b : ℕ) (bs : List ℕ) (v : Bool) → (b == 10) ≡ v → first_line (b ∷ bs) ≡ b ∷ (if v then [] else first_line bs)
first_more b bs v h = ap (λ x. b ∷ (if x then [] else first_line bs)) h

ahead_step : (text : List ℕ) (start end : ℕ) (v : Bool) → IsAhead text start end → end < length text → (get_or text end 0 == 10) ≡ v
    → part text start (end + 1) ++ (if v then [] else first_line (drop (end + 1) text)) ≡ first_line (drop start text)
ahead_step text start end v a l h =
    ap (λ x. x ++ (if v then [] else first_line (drop (end + 1) text))) (part_more text start end a.order l)
    ∙ append_assoc (part text start end) (get_or text end 0 ∷ []) (if v then [] else first_line (drop (end + 1) text))
    ∙ ap (λ x. part text start end ++ x) (sym (ap first_line (drop_more text end 0 l) ∙ first_more (get_or text end 0) (drop (end + 1) text) v h))
    ∙ a.first

pub ahead_next : (text : List ℕ) (start end : ℕ) → IsAhead text start end → end < length text → get_or text end 0 ≢ 10 → IsAhead text start (end + 1)
ahead_next text start end a l h =
    let other : (get_or text end 0 == 10) ≡ false = grind (arith, nat_tests) in
    record { order = omega (arith, a.order); within = omega arith; first = ahead_step text start end false a l other }

pub ahead_last : (text : List ℕ) (start end : ℕ) → IsAhead text start end → end < length text → get_or text end 0 ≡ 10 → part text start (end + 1) ≡ first_line (drop start text)
ahead_last text start end a l h =
    let same : (get_or text end 0 == 10) ≡ true = rw h refl in
    sym (append-nil (part text start (end + 1))) ∙ ahead_step text start end true a l same

pub ahead_end : (text : List ℕ) (start end : ℕ) → IsAhead text start end → length text ≤ end → part text start (length text) ≡ first_line (drop start text)
ahead_end text start end a l =
    let z : drop end text ≡ [] = grind (arith, common_steps) in
    let n : end ≡ length text = omega (arith, a.within, l) in
    sym (append-nil (part text start (length text))) ∙ ap (λ x. part text start x ++ []) (sym n) ∙ ap (λ x. part text start end ++ first_line x) (sym z) ∙ a.first

first_of : (n : ℕ) (xs : List ℕ) → 0 < n → n ≤ length xs → ((m : ℕ) → n ≡ suc m → n < length xs → get_or xs m 0 ≡ 10) → first_line (take n xs) ≡ first_line xs
first_of zero xs p l h = absurd (omega arith)
first_of (suc m) [] p l h = absurd (omega arith)
first_of (suc zero) (x ∷ []) p l h = refl
first_of (suc zero) (x ∷ y ∷ xs) p l h = let e : x ≡ 10 = h 0 refl (omega arith) in rw e refl
first_of (suc (suc m)) (x ∷ xs) p l h =
    ap (λ r. x ∷ (if x == 10 then [] else r)) (first_of (suc m) xs (omega arith) (omega arith) (λ k e s. h (suc k) (ap suc e) (omega arith)))

-- the first line of a part of whole lines is that of the text
first_of_part : (text : List ℕ) (start end : ℕ) → start < end → IsLineStart text end → first_line (part text start end) ≡ first_line (drop start text)
first_of_part text start end h l =
    let n : start + (length text - start) ≡ length text = omega (arith, l.0) in
    let len : length (drop start text) ≡ length text - start = grind (arith, common_steps) in
    first_of (end - start) (drop start text) (omega arith) (rw len (omega (arith, l.0)))
    (λ m e s.
    let s' : end - start < length text - start = subst (λ x. end - start < x) len s in
    let e' : end ≡ suc (start + m) = omega arith in
    get_or-drop start text m 0 ∙ l.1 (start + m) e' (omega arith))

pub front_differs : (old new : List ℕ) (start end from to : ℕ) → first_line (drop start old) ≢ first_line (drop from new) → start < end → from < to
    → IsLineStart old end → IsLineStart new to → part old start end ≢ part new from to
front_differs old new start end from to d h k l m e =
    d (sym (first_of_part old start end h l) ∙ ap first_line e ∙ first_of_part new from to k m)

-- ---- the last line

-- no line begins between these offsets
pub record IsBehind (text : List ℕ) (start end at : ℕ) : Type 0 where
  pub order : start ≤ at
  pub before : at < end
  pub none : (m : ℕ) → at < m → m < end → IsLineStart text m → ⊥

pub behind_start : (text : List ℕ) (start end : ℕ) → start < end → IsBehind text start end (end - 1)
behind_start text start end h = record { order = omega arith; before = omega arith; none = λ m a b l. absurd (omega arith) }

pub behind_next : (text : List ℕ) (start end at : ℕ) → end ≤ length text → IsBehind text start end at → start < at → get_or text (at - 1) 0 ≢ 10 → IsBehind text start end (at - 1)
behind_next text start end at w b h n = record {
  order = omega arith;
  before = omega (arith, b.before);
  none = λ m p q l.
      let next : (at ≡ m) ⊎ (at < m) = eq-or-lt_of_le (omega arith) in
      elim next [
        | inl e ↦ n (l.1 (at - 1) (omega arith) (omega arith))
        | inr g ↦ b.none m g q l
      ];
}

pub behind_line : (text : List ℕ) (at : ℕ) → at ≤ length text → get_or text (at - 1) 0 ≡ 10 → IsLineStart text at
behind_line text at w h = (w, λ m e l. let n : at - 1 ≡ m = omega arith in subst (λ i. get_or text i 0 ≡ 10) n h)

get_part : (text : List ℕ) (s e i : ℕ) → i < e - s → get_or (part text s e) i 0 ≡ get_or text (s + i) 0
get_part text s e i h = get_or-take (e - s) (drop s text) i 0 h ∙ get_or-drop s text i 0

part_after : (text : List ℕ) (s r e : ℕ) → s ≤ r → r ≤ e → part text r e ≡ drop (r - s) (part text s e)
part_after text s r e h k =
    let n : (r - s) + (e - r) ≡ e - s = omega arith in
    sym (ap (λ x. drop (r - s) (take x (drop s text))) (sym n) ∙ drop-take (r - s) (e - r) (drop s text) ∙ ap (take (e - r)) (drop_on text s r h))

-- the last lines of equal parts are as long as each other
not_longer : (old new : List ℕ) (s e r f t q : ℕ) → part old s e ≡ part new f t → e ≤ length old → t ≤ length new → e - s ≡ t - f
    → s ≤ r → ((m : ℕ) → r < m → m < e → IsLineStart old m → ⊥) → f ≤ q → q < t → IsLineStart new q → r - s < q - f → ⊥
not_longer old new s e r f t q same w x n a last b c l d =
    last (s + (q - f)) (omega arith) (omega arith) (
      omega arith,
      λ m h k.
          let i : m ≡ s + ((q - f) - 1) = omega arith in
          let j : f + ((q - f) - 1) ≡ q - 1 = omega arith in
          ap (λ o. get_or old o 0) i
          ∙ sym (get_part old s e ((q - f) - 1) (omega arith))
          ∙ ap (λ p. get_or p ((q - f) - 1) 0) same
          ∙ get_part new f t ((q - f) - 1) (omega arith)
          ∙ ap (λ o. get_or new o 0) j
          ∙ l.1 (q - 1) (omega arith) (omega arith),
    )

-- where the last lines differ, all lines before the ends do
back_differs : (old new : List ℕ) (s e r f t q : ℕ) → part old r e ≢ part new q t → e ≤ length old → t ≤ length new
    → r < e → q < t → IsLineStart old r → IsLineStart new q
    → ((m : ℕ) → r < m → m < e → IsLineStart old m → ⊥) → ((m : ℕ) → q < m → m < t → IsLineStart new m → ⊥)
    → s < e → f < t → IsLineStart old s → IsLineStart new f → part old s e ≢ part new f t
back_differs old new s e r f t q d w x a b lr lq nr nq h k ls lf same =
    let sr : s ≤ r = elim (cases_lt r s) [ inl y ↦ absurd (nr s y h ls) | inr y ↦ y ] in
    let fq : f ≤ q = elim (cases_lt q f) [ inl y ↦ absurd (nq f y k lf) | inr y ↦ y ] in
    let n : e - s ≡ t - f = sym (length_part old s e w) ∙ ap length same ∙ length_part new f t x in
    elim (cases_order (r - s) (q - f)) [
      | inl y ↦ d (part_after old s r e sr (omega arith) ∙ ap (λ i. drop i (part old s e)) y ∙ ap (drop (q - f)) same ∙ sym (part_after new f q t fq (omega arith)))
      | inr (inl y) ↦ not_longer old new s e r f t q same w x n sr nr fq b lq y
      | inr (inr y) ↦ not_longer new old f t q s e r (sym same) x w (sym n) fq nq sr a lr y
    ]

-- ---- an edit without lines at its end

pub shorter_next : (old new : List ℕ) (e cut : Edit) (end to : ℕ) → IsShorter old new e cut → e.end ≤ length old → e.to ≤ length new
    → cut.start ≤ end → end < cut.end → cut.from ≤ to → to < cut.to → IsLineStart old end → IsLineStart new to → part old end cut.end ≡ part new to cut.to
    → IsShorter old new e record { start = cut.start; end = end; from = cut.from; to = to }
shorter_next old new e cut end to s w x a b c d l m same = record {
  start = s.start;
  from = s.from;
  old_order = (a, omega (arith, s.old_order.1));
  new_order = (c, omega (arith, s.new_order.1));
  end = l;
  to = m;
  same =
      sym (part_part old end cut.end e.end (omega arith) s.old_order.1 w)
      ∙ ap (λ p. p ++ part old cut.end e.end) same
      ∙ ap (λ p. part new to cut.to ++ p) s.same
      ∙ part_part new to cut.to e.to (omega arith) s.new_order.1 x;
}

-- the last lines differ
pub cut_differs : (old new : List ℕ) (e cut : Edit) (end to : ℕ) → IsShorter old new e cut → e.end ≤ length old → e.to ≤ length new
    → end < cut.end → to < cut.to → IsLineStart old end → IsLineStart new to
    → ((m : ℕ) → end < m → m < cut.end → IsLineStart old m → ⊥) → ((m : ℕ) → to < m → m < cut.to → IsLineStart new m → ⊥)
    → part old end cut.end ≢ part new to cut.to → IsCut old new e cut
cut_differs old new e cut end to s w x a b l m n o d = record {
  shorter = s;
  back = λ start from _ h _ k ls lf.
      back_differs old new start cut.end end from cut.to to d (omega (arith, s.old_order.1)) (omega (arith, s.new_order.1)) a b l m n o h k ls lf;
}
