-- The edits between two texts, one pair of lines after another.
use Rattle.std.proofs.Common.{◌≡◌, ◌≢◌, ℕ, zero, suc, ◌≤◌, ◌<◌, if◌then◌else◌, Bool, true, false, inl, inr, List, [], ◌∷◌, ◌++◌, length, get_or, drop, filter, refl, sym, ◌∙◌, ap, subst, arith, append_assoc, append-nil}
use Rattle.std.proofs.lemmas.Bool.{cases_Bool}
use Rattle.std.proofs.lemmas.Grind.{common_steps}
use Rattle.isle_lsp_text.specs.declared.edits.Edit.{Edit}
use Rattle.isle_lsp_text.specs.Edits.{applied, part, IsEdit, IsLineStart}
use Rattle.isle_lsp_text.proofs.Parts.{part_none, part_drop, part_part}
use Rattle.isle_lsp_ranges.specs.LineEdits.{AreEditsWithin, AreLineEdits, IsLineEdit, IsPair, is_within}

-- These edits make the rest of the new text from the rest of the old one.
pub record IsRest (old new : List ℕ) (i j : ℕ) (es : List Edit) : Type 0 where
  pub gives : applied i es old new ≡ drop j new
  pub lines : AreLineEdits i es old new

applied_on : (old new : List ℕ) (i p : ℕ) (es : List Edit) → i ≤ p → p ≤ length old → AreLineEdits p es old new → applied i es old new ≡ part old i p ++ applied p es old new
applied_on old new i p [] h l a = sym (part_drop old i p h l)
applied_on old new i p (e ∷ es) h l a =
    ap (λ x. x ++ (part new e.from e.to ++ applied e.end es old new)) (sym (part_part old i p e.start h a.0 a.1.start.0)) ∙ append_assoc (part old i p) (part old p e.start) (part new e.from e.to ++ applied e.end es old new)

lines_before : (old new : List ℕ) (i p : ℕ) (es : List Edit) → i ≤ p → AreLineEdits p es old new → AreLineEdits i es old new
lines_before old new i p [] h a = tt
lines_before old new i p (e ∷ es) h a = (omega (arith, a.0), a.1, a.2)

-- equal lines before the rest
rest_kept : (old new : List ℕ) (i p j q : ℕ) (es : List Edit) → i ≤ p → p ≤ length old → j ≤ q → q ≤ length new → part old i p ≡ part new j q → IsRest old new p q es → IsRest old new i j es
rest_kept old new i p j q es h l k m same r = record {
  gives =
      applied_on old new i p es h l r.lines
      ∙ ap (λ x. x ++ applied p es old new) same
      ∙ ap (λ x. part new j q ++ x) r.gives
      ∙ part_drop new j q k m;
  lines = lines_before old new i p es h r.lines;
}

-- an edit before the rest
rest_edited : (old new : List ℕ) (e : Edit) (es : List Edit) → IsLineEdit old new e → IsRest old new e.end e.to es → IsRest old new e.start e.from (e ∷ es)
rest_edited old new e es is r = record {
  gives =
      ap (λ x. x ++ (part new e.from e.to ++ applied e.end es old new)) (part_none old e.start)
      ∙ ap (λ x. part new e.from e.to ++ x) r.gives
      ∙ part_drop new e.from e.to is.new_order is.to.0;
  lines = (omega arith, is, r.lines);
}

-- a pair of lines as an edit, if it changes anything
abbrev pub changed : Bool → Edit → List Edit
changed true e = e ∷ []
changed false e = []

-- the pair of lines that begins here
abbrev Begins : (old new : List ℕ) → Edit → Type 0
Begins old new e = IsLineStart old e.start × IsLineStart new e.from

line_edit : (old new : List ℕ) (i j : ℕ) (e : Edit) → Begins old new e → IsPair old new i j e → part old e.start e.end ≢ part new e.from e.to → IsLineEdit old new e
line_edit old new i j e b p other = record {
  old_order = p.old_order;
  new_order = p.new_order;
  start = b.0;
  end = p.end;
  from = b.1;
  to = p.to;
  one = p.one;
  other = other;
}

rest_changed : (old new : List ℕ) (i j : ℕ) (e : Edit) (v : Bool) (es : List Edit) → Begins old new e → IsPair old new i j e
    → (v ≡ false → part old e.start e.end ≡ part new e.from e.to) → (v ≡ true → part old e.start e.end ≢ part new e.from e.to)
    → IsRest old new e.end e.to es → IsRest old new e.start e.from (changed v e ++ es)
rest_changed old new i j e true es b p same other r = rest_edited old new e es (line_edit old new i j e b p (other refl)) r
rest_changed old new i j e false es b p same other r = rest_kept old new e.start e.end e.from e.to es p.old_order p.end.0 p.new_order p.to.0 (same refl) r

-- Both texts up to these offsets: the edits so far, and those of them within a part.
pub record IsTurned (old new : List ℕ) (from to : ℕ) (within : List Edit) (i j : ℕ) : Type 0 where
  pub done : List Edit
  pub kept : within ≡ filter (is_within from to) done
  pub goes_on : (es : List Edit) → IsRest old new i j es → IsRest old new 0 0 (done ++ es)
  pub old_line : IsLineStart old i
  pub new_line : IsLineStart new j

line_start_zero : (text : List ℕ) → IsLineStart text 0
line_start_zero text = (omega arith, λ m e l. absurd (omega arith))

pub turned_start : (old new : List ℕ) (from to : ℕ) → IsTurned old new from to [] 0 0
turned_start old new from to = record {
  done = [];
  kept = refl;
  goes_on = λ es r. r;
  old_line = line_start_zero old;
  new_line = line_start_zero new;
}

filter_append : (p : Edit → Bool) (es fs : List Edit) → filter p (es ++ fs) ≡ filter p es ++ filter p fs
filter_append p [] fs = refl
filter_append p (e ∷ es) fs = elim (cases_Bool (p e)) [ inl t ↦ rw t (ap (λ x. e ∷ x) (filter_append p es fs)) | inr t ↦ rw t (filter_append p es fs) ]

-- one pair of lines more
turned_next : (old new : List ℕ) (from to : ℕ) (within : List Edit) (i j : ℕ) (e : Edit) (v : Bool) → IsTurned old new from to within i j → IsPair old new i j e
    → (v ≡ false → part old e.start e.end ≡ part new e.from e.to) → (v ≡ true → part old e.start e.end ≢ part new e.from e.to)
    → IsTurned old new from to (within ++ filter (is_within from to) (changed v e)) e.end e.to
turned_next old new from to within i j e v t p same other =
    let begins : Begins old new e = (subst (IsLineStart old) (sym p.here.0) t.old_line, subst (IsLineStart new) (sym p.here.1) t.new_line) in
    record {
      done = t.done ++ changed v e;
      kept = ap (λ x. x ++ filter (is_within from to) (changed v e)) t.kept ∙ sym (filter_append (is_within from to) t.done (changed v e));
      goes_on = λ es r.
          let here : IsRest old new i j (changed v e ++ es) =
          subst (λ n. IsRest old new n j (changed v e ++ es)) p.here.0
          (subst (λ n. IsRest old new e.start n (changed v e ++ es)) p.here.1 (rest_changed old new i j e v es begins p same other r)) in
          subst (IsRest old new 0 0) (sym (append_assoc t.done (changed v e) es)) (t.goes_on (changed v e ++ es) here);
      old_line = p.end;
      new_line = p.to;
    }

-- one pair of equal lines more
pub turned_same : (old new : List ℕ) (from to : ℕ) (within : List Edit) (i j : ℕ) (e : Edit) → IsTurned old new from to within i j → IsPair old new i j e
    → part old e.start e.end ≡ part new e.from e.to → IsTurned old new from to within e.end e.to
turned_same old new from to within i j e t p same =
    subst (λ es. IsTurned old new from to es e.end e.to) (append-nil within) (turned_next old new from to within i j e false t p (λ _. same) (λ no. absurd (cc)))

-- and one pair that differs
pub turned_edited : (old new : List ℕ) (from to : ℕ) (within : List Edit) (i j : ℕ) (e : Edit) → IsTurned old new from to within i j → IsPair old new i j e
    → part old e.start e.end ≢ part new e.from e.to → IsTurned old new from to (within ++ filter (is_within from to) (e ∷ [])) e.end e.to
turned_edited old new from to within i j e t p other = turned_next old new from to within i j e true t p (λ no. absurd (cc)) (λ _. other)

-- at the ends of both texts
pub all_turned : (old new : List ℕ) (from to : ℕ) (within : List Edit) (i j : ℕ) → IsTurned old new from to within i j → length old ≤ i → length new ≤ j → AreEditsWithin old new from to within
all_turned old new from to within i j t h k =
    let a : drop i old ≡ [] = grind (arith, common_steps) in
    let b : drop j new ≡ [] = grind (arith, common_steps) in
    let r : IsRest old new 0 0 t.done = subst (IsRest old new 0 0) (append-nil t.done) (t.goes_on [] (record { gives = a ∙ sym b; lines = tt })) in
    (t.done, record { gives = r.gives; lines = r.lines }, t.kept)

-- each of them can be made
is_edit : (old new : List ℕ) (e : Edit) → IsLineEdit old new e → IsEdit old new e
is_edit old new e is = record { old_order = is.old_order; new_order = is.new_order; from = is.from; to = is.to }

filtered_at : (old new : List ℕ) (at : ℕ) (p : Edit → Bool) (es : List Edit) (i : ℕ) (d : Edit) → AreLineEdits at es old new → i < length (filter p es) → IsEdit old new (get_or (filter p es) i d)
filtered_at old new at p [] i d a h = absurd (omega arith)
filtered_at old new at p (e ∷ es) i d a h = by_test (p e) i (λ k l. filtered_at old new e.end p es k d a.2 l) h where
  by_test : (v : Bool) (i : ℕ) → ((k : ℕ) → k < length (filter p es) → IsEdit old new (get_or (filter p es) k d)) → i < length (if v then e ∷ filter p es else filter p es) → IsEdit old new (get_or (if v then e ∷ filter p es else filter p es) i d)
  by_test true zero rest h = is_edit old new e a.1
  by_test true (suc i) rest h = rest i (omega arith)
  by_test false i rest h = rest i h

pub edit_at : (old new : List ℕ) (from to : ℕ) (es : List Edit) (i : ℕ) (d : Edit) → AreEditsWithin old new from to es → i < length es → IsEdit old new (get_or es i d)
edit_at old new from to es i d a h =
    let h' : i < length (filter (is_within from to) a.0) = subst (λ x. i < length x) a.2 h in
    subst (λ x. IsEdit old new (get_or x i d)) (sym a.2) (filtered_at old new 0 (is_within from to) a.0 i d a.1.lines h')
