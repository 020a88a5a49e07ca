-- Edits that turn a beginning of the old text into one of the new.
use Rattle.std.proofs.Common.{◌≡◌, ◌≢◌, ℕ, zero, suc, ◌+◌, ◌-◌, ◌≤◌, ◌<◌, ◌⊎◌, ◌||◌, nat_lt, false, inl, inr, List, [], ◌∷◌, ◌++◌, length, get_or, take, drop, refl, sym, ◌∙◌, ap, subst, arith, append_assoc, append-nil}
use Rattle.std.proofs.Math.Nat.{eq-or-lt_of_le}
use Rattle.std.proofs.lemmas.Bool.{cases_Bool}
use Rattle.std.proofs.lemmas.Bool.Decides.{nat_tests}
use Rattle.std.proofs.lemmas.Grind.{common_steps}
use Rattle.std.specs.Str.{IsUtf8, IsCharBoundary}
use Rattle.std.proofs.lemmas.Str.{IsCharBoundary-start, IsCharBoundary-after_ascii}
use Rattle.isle_lsp_text.specs.declared.edits.Edit.{Edit}
use Rattle.isle_lsp_text.specs.Edits.{part, applied, changed_only, first_line, IsCut, IsEdit, IsLineStart, IsTrimmed, AreEdits}
use Rattle.isle_lsp_text.proofs.Parts.{part_none, part_drop, part_part, take_part, length_part, front_differs}

abbrev pub StartsFrom : ℕ → List Edit → Type 0
StartsFrom at [] = Unit {0}
StartsFrom at (e ∷ es) = at ≤ e.start

-- the first of them begins within the text
abbrev pub StartsWithin : List ℕ → List Edit → Type 0
StartsWithin old [] = Unit {0}
StartsWithin old (e ∷ es) = e.start ≤ length old

-- where the next edit may begin
abbrev pub after : ℕ → List Edit → ℕ
after at [] = at
after at (e ∷ es) = after (e.end + 1) es

pub record Turns (old new : List ℕ) (es : List Edit) (i j : ℕ) : Type 0 where
  pub turns : (more : List Edit) → StartsFrom i more → StartsWithin old more → applied 0 (es ++ more) old new ≡ take j new ++ applied i more old new

none_changed : (a b c d : ℕ) → (nat_lt a b || nat_lt c d) ≡ false → (b ≤ a) × (d ≤ c)
none_changed a b c d h = grind (arith, nat_tests)

pub turns_start : (old new : List ℕ) → Turns old new [] 0 0
turns_start old new = record { turns = λ more s b. refl }

-- The edit in hand, after these.
pub record IsInHand (old new : List ℕ) (es : List Edit) (e : Edit) : Type 0 where
  pub turns : Turns old new es e.start e.from
  pub edits : AreEdits 0 es old new
  pub after_all : after 0 es ≤ e.start
  pub old_order : e.start ≤ e.end
  pub new_order : e.from ≤ e.to
  pub start : IsLineStart old e.start
  pub end : IsLineStart old e.end
  pub from : IsLineStart new e.from
  pub to : IsLineStart new e.to
  pub first : (e.start < e.end) ⊎ (e.from < e.to) → first_line (drop e.start old) ≢ first_line (drop e.from new)

line_start_zero : (text : List ℕ) → IsLineStart text 0
line_start_zero text = (omega arith, λ m e l. absurd (omega arith))

pub hand_start : (old new : List ℕ) → IsInHand old new [] record { start = 0; end = 0; from = 0; to = 0 }
hand_start old new = record {
  turns = turns_start old new;
  edits = tt;
  after_all = omega arith;
  old_order = omega arith;
  new_order = omega arith;
  start = line_start_zero old;
  end = line_start_zero old;
  from = line_start_zero new;
  to = line_start_zero new;
  first = λ o. absurd (elim o [ inl l ↦ omega arith | inr l ↦ omega arith ]);
}

is_begun : (a b c d : ℕ) → a ≤ b → c ≤ d → ((a < b) ⊎ (c < d)) ⊎ ((a ≡ b) × (c ≡ d))
is_begun a b c d h k =
    elim (eq-or-lt_of_le h) [ inl e ↦ elim (eq-or-lt_of_le k) [ inl f ↦ inr (e, f) | inr l ↦ inl (inr l) ] | inr l ↦ inl (inl l) ]

still_first : (old new : List ℕ) (es : List Edit) (e : Edit) → IsInHand old new es e → first_line (drop e.end old) ≢ first_line (drop e.to new)
    → first_line (drop e.start old) ≢ first_line (drop e.from new)
still_first old new es e h d =
    let begun : ((e.start < e.end) ⊎ (e.from < e.to)) ⊎ ((e.start ≡ e.end) × (e.from ≡ e.to)) = is_begun e.start e.end e.from e.to h.old_order h.new_order in
    elim begun [
      | inl o ↦ h.first o
      | inr s ↦ λ same. d (ap (λ i. first_line (drop i old)) (sym s.0) ∙ same ∙ ap (λ i. first_line (drop i new)) s.1)
    ]

-- the edit takes more lines, where those at its ends differ
pub hand_grown : (old new : List ℕ) (es : List Edit) (e : Edit) (end to : ℕ) → IsInHand old new es e → e.end ≤ end → e.to ≤ to → IsLineStart old end → IsLineStart new to
    → first_line (drop e.end old) ≢ first_line (drop e.to new) → IsInHand old new es record { start = e.start; end = end; from = e.from; to = to }
hand_grown old new es e end to h p q l m d = record {
  turns = h.turns;
  edits = h.edits;
  after_all = h.after_all;
  old_order = omega (arith, h.old_order);
  new_order = omega (arith, h.new_order);
  start = h.start;
  end = l;
  from = h.from;
  to = m;
  first = λ _. still_first old new es e h d;
}

starts_before : (i p : ℕ) (more : List Edit) → i ≤ p → StartsFrom p more → StartsFrom i more
starts_before i p [] h s = tt
starts_before i p (e ∷ es) h s = omega arith

applied_on : (old new : List ℕ) (i p : ℕ) (more : List Edit) → i ≤ p → p ≤ length old → StartsFrom p more → StartsWithin old more → applied i more old new ≡ part old i p ++ applied p more old new
applied_on old new i p [] h l s b = sym (part_drop old i p h l)
applied_on old new i p (e ∷ es) h l s b =
    ap (λ x. x ++ (part new e.from e.to ++ applied e.end es old new)) (sym (part_part old i p e.start h s b)) ∙ append_assoc (part old i p) (part old p e.start) (part new e.from e.to ++ applied e.end es old new)

-- equal lines after the last edit
turns_kept : (old new : List ℕ) (es : List Edit) (i j p q : ℕ) → Turns old new es i j → i ≤ p → p ≤ length old → j ≤ q → q ≤ length new → part old i p ≡ part new j q → Turns old new es p q
turns_kept old new es i j p q t h l k m e = record {
  turns = λ more s b.
      t.turns more (starts_before i p more h s) b
      ∙ ap (λ x. take j new ++ x) (applied_on old new i p more h l s b ∙ ap (λ x. x ++ applied p more old new) e)
      ∙ sym (append_assoc (take j new) (part new j q) (applied p more old new))
      ∙ ap (λ x. x ++ applied p more old new) (take_part new j q k m);
}

-- one edit more
turns_edited : (old new : List ℕ) (es : List Edit) (e : Edit) → Turns old new es e.start e.from → e.start ≤ e.end → e.start ≤ length old → e.from ≤ e.to → e.to ≤ length new → Turns old new (es ++ e ∷ []) e.end e.to
turns_edited old new es e t h l k m = record {
  turns = λ more s b.
      ap (λ x. applied 0 x old new) (append_assoc es (e ∷ []) more)
      ∙ t.turns (e ∷ more) (omega arith) l
      ∙ ap (λ x. take e.from new ++ (x ++ (part new e.from e.to ++ applied e.end more old new))) (part_none old e.start)
      ∙ sym (append_assoc (take e.from new) (part new e.from e.to) (applied e.end more old new))
      ∙ ap (λ x. x ++ applied e.end more old new) (take_part new e.from e.to k m);
}

are_more : (old new : List ℕ) (at : ℕ) (es : List Edit) (e : Edit) → AreEdits at es old new → after at es ≤ e.start → e.start ≤ e.end → e.from ≤ e.to → IsLineStart old e.start → IsLineStart old e.end → IsLineStart new e.from → IsLineStart new e.to → IsTrimmed old new e → AreEdits at (es ++ e ∷ []) old new
are_more old new at [] e a f h k s t u v w = (f, h, k, s, t, u, v, w, tt)
are_more old new at (d ∷ es) e a f h k s t u v w = (a.0, a.1, a.2, a.3, a.4, a.5, a.6, a.7, are_more old new (d.end + 1) es e a.8 f h k s t u v w)

after_more : (at : ℕ) (es : List Edit) (e : Edit) → after at (es ++ e ∷ []) ≡ e.end + 1
after_more at [] e = refl
after_more at (d ∷ es) e = after_more (d.end + 1) es e

-- the edit in hand counts, or changes nothing
pub record Pushed (old new : List ℕ) (es more : List Edit) (e : Edit) : Type 0 where
  pub turns : Turns old new (es ++ more) e.end e.to
  pub edits : AreEdits 0 (es ++ more) old new
  pub after_all : after 0 (es ++ more) ≤ e.end + 1

unpushed : (old new : List ℕ) (es : List Edit) (e : Edit) → IsInHand old new es e → (e.end ≤ e.start) × (e.to ≤ e.from) → Pushed old new es [] e
unpushed old new es e h g =
    let a : e.start ≡ e.end = omega (arith, g.0, h.old_order) in
    let b : e.from ≡ e.to = omega (arith, g.1, h.new_order) in
    let n = sym (append-nil es) in
    record {
      turns = subst (λ x. Turns old new x e.end e.to) n (subst (Turns old new es e.end) b (subst (λ i. Turns old new es i e.from) a h.turns));
      edits = subst (λ x. AreEdits 0 x old new) n h.edits;
      after_all = subst (λ x. after 0 x ≤ e.end + 1) n (omega (arith, h.after_all, h.old_order));
    }

pushed : (old new : List ℕ) (es : List Edit) (e : Edit) → IsInHand old new es e → IsTrimmed old new e → Pushed old new es (changed_only e) e
pushed old new es e h w =
    elim (cases_Bool (nat_lt e.start e.end || nat_lt e.from e.to)) [
      | inl t ↦ rw t (record {
        turns = turns_edited old new es e h.turns h.old_order h.start.0 h.new_order h.to.0;
        edits = are_more old new 0 es e h.edits h.after_all h.old_order h.new_order h.start h.end h.from h.to w;
        after_all = rw (after_more 0 es e) (omega arith);
      })
      | inr t ↦ rw t (unpushed old new es e h (none_changed _ _ _ _ t))
    ]

trimmed : (old new : List ℕ) (es : List Edit) (e cut : Edit) → IsInHand old new es e → IsCut old new e cut → IsTrimmed old new cut
trimmed old new es e cut h c = let s = c.shorter in record {
  front = λ end to a b k d l m.
      let n : first_line (drop cut.start old) ≢ first_line (drop cut.from new) = rw (s.start, s.from) (h.first (inl (omega (arith, s.start, s.old_order.1)))) in
      front_differs old new cut.start end cut.from to n a k l m;
  back = c.back;
}

hand_cut : (old new : List ℕ) (es : List Edit) (e cut : Edit) → IsInHand old new es e → IsCut old new e cut → IsInHand old new es cut
hand_cut old new es e cut h c = let s = c.shorter in record {
  turns = rw (s.start, s.from) h.turns;
  edits = h.edits;
  after_all = rw s.start h.after_all;
  old_order = s.old_order.0;
  new_order = s.new_order.0;
  start = rw s.start h.start;
  end = s.end;
  from = rw s.from h.from;
  to = s.to;
  first = λ o. rw (s.start, s.from) (h.first (elim o [ inl l ↦ inl (omega (arith, s.start, s.old_order.1)) | inr l ↦ inr (omega (arith, s.from, s.new_order.1)) ]));
}

-- the edit in hand counts, without the lines at its end that are the same
pub pushed_cut : (old new : List ℕ) (es : List Edit) (e cut : Edit) → IsInHand old new es e → IsCut old new e cut → Pushed old new es (changed_only cut) e
pushed_cut old new es e cut h c =
    let s = c.shorter in
    let p = pushed old new es cut (hand_cut old new es e cut h c) (trimmed old new es e cut h c) in
    record {
      turns = turns_kept old new (es ++ changed_only cut) cut.end cut.to e.end e.to p.turns s.old_order.1 h.end.0 s.new_order.1 h.to.0 s.same;
      edits = p.edits;
      after_all = omega (arith, p.after_all, s.old_order.1);
    }

-- equal lines after the edit in hand
pub hand_next : (old new : List ℕ) (es more : List Edit) (e : Edit) (end to : ℕ) → Pushed old new es more e → e.end < end → end ≤ length old → e.to ≤ to → to ≤ length new → part old e.end end ≡ part new e.to to → IsLineStart old end → IsLineStart new to → IsInHand old new (es ++ more) record { start = end; end = end; from = to; to = to }
hand_next old new es more e end to g h l k m q s t = record {
  turns = turns_kept old new (es ++ more) e.end e.to end to g.turns (omega arith) l k m q;
  edits = g.edits;
  after_all = omega (arith, g.after_all);
  old_order = omega arith;
  new_order = omega arith;
  start = s;
  end = s;
  from = t;
  to = t;
  first = λ o. absurd (elim o [ inl w ↦ omega arith | inr w ↦ omega arith ]);
}

-- at the ends of both texts
pub all_turned : (old new : List ℕ) (es : List Edit) (i j : ℕ) → Turns old new es i j → i ≡ length old → j ≡ length new → applied 0 es old new ≡ new
all_turned old new es i j t p q =
    let n : drop i old ≡ [] = grind (arith, common_steps) in
    let w : take j new ≡ new = grind (arith, common_steps) in
    ap (λ x. applied 0 x old new) (sym (append-nil es)) ∙ t.turns [] tt tt ∙ ap (λ x. x ++ drop i old) w ∙ ap (λ x. new ++ x) n ∙ append-nil new

-- an equal line isn't empty, where one of the texts goes on
pub goes_on : (old new : List ℕ) (end to p q : ℕ) → end ≤ p → p ≤ length old → to ≤ q → q ≤ length new → (end < length old → end < p) → (to < length new → to < q) → part old end p ≡ part new to q → (end < length old) ⊎ (to < length new) → end < p
goes_on old new end to p q a b c d g h e o =
    let same : p - end ≡ q - to = sym (length_part old end p b) ∙ ap length e ∙ length_part new to q d in
    elim o [ inl l ↦ g l | inr l ↦ let r = h l in omega arith ]

-- the edit takes a line, and there is less left
pub less_left : (end to p q n m : ℕ) → end ≤ p → to ≤ q → p ≤ n → q ≤ m → (end < p) ⊎ (to < q) → (n - p) + (m - q) < (n - end) + (m - to)
less_left end to p q n m a b c d o = elim o [ inl l ↦ omega arith | inr l ↦ omega arith ]

pub edit_at : (old new : List ℕ) (at : ℕ) (es : List Edit) (i : ℕ) (d : Edit) → AreEdits at es old new → i < length es → IsEdit old new (get_or es i d)
edit_at old new at [] i d a h = absurd (omega arith)
edit_at old new at (e ∷ es) zero d a h = record { old_order = a.1; new_order = a.2; from = a.5; to = a.6 }
edit_at old new at (e ∷ es) (suc i) d a h = edit_at old new (e.end + 1) es i d a.8 (omega arith)

-- a text may be cut where a line begins
pub line_start_boundary : (text : List ℕ) (n : ℕ) → IsUtf8 text → IsLineStart text n → IsCharBoundary text n
line_start_boundary text zero u l = IsCharBoundary-start text u
line_start_boundary text (suc m) u l = (
  l.0,
  λ h.
      let lf : get_or text m 0 ≡ 10 = l.1 m refl h in
      let b = IsCharBoundary-after_ascii text m u (omega arith) (omega arith) in
      let z : m + 1 ≡ suc m = omega arith in
      (subst (IsCharBoundary text) z b).1 h,
)
