-- What stands between tokens stays so before other tokens.
use Rattle.std.proofs.Common.{◌≡◌, ℕ, List, [], ◌∷◌, ◌++◌, true, false, refl, sym, ap, subst, ◌∙◌, append_assoc}
use Rattle.isle_base.specs.Skips.{Inside, Skip, begins_with, block_comment, blank, byte, closes, ends, in_line, line_comment, nested, nothing, opens}
use Rattle.isle_index_laws.proofs.KeptNames.{clash}

-- from inside a block comment to its end: at least one byte, and then whatever follows
record Body (text rest : List ℕ) : Type 0 where
  first : ℕ
  further : List ℕ
  split : text ≡ first ∷ (further ++ rest)
  moves : (after : List ℕ) → Inside (first ∷ (further ++ after)) after

nested_split : (text inner mid rest : List ℕ) (b : ℕ) (bs : List ℕ) (c : ℕ) (cs : List ℕ) → text ≡ 40 ∷ 59 ∷ inner → inner ≡ b ∷ (bs ++ mid) → mid ≡ c ∷ (cs ++ rest) →
    text ≡ 40 ∷ ((59 ∷ b ∷ (bs ++ c ∷ cs)) ++ rest)
nested_split text inner mid rest b bs c cs e f g =
    let h : bs ++ (c ∷ (cs ++ rest)) ≡ (bs ++ c ∷ cs) ++ rest = sym (append_assoc bs (c ∷ cs) rest) in
    let k : bs ++ mid ≡ (bs ++ c ∷ cs) ++ rest = ap (λ xs. bs ++ xs) g ∙ h in
    e ∙ ap (λ xs. 40 ∷ 59 ∷ xs) f ∙ ap (λ xs. 40 ∷ 59 ∷ b ∷ xs) k

nested_moves : (b : ℕ) (bs : List ℕ) (c : ℕ) (cs after : List ℕ) → Inside (b ∷ (bs ++ (c ∷ (cs ++ after)))) (c ∷ (cs ++ after)) → Inside (c ∷ (cs ++ after)) after →
    Inside (40 ∷ ((59 ∷ b ∷ (bs ++ c ∷ cs)) ++ after)) after
nested_moves b bs c cs after i j =
    let h : bs ++ (c ∷ (cs ++ after)) ≡ (bs ++ c ∷ cs) ++ after = sym (append_assoc bs (c ∷ cs) after) in
    subst (λ xs. Inside (40 ∷ 59 ∷ b ∷ xs) after) h (nested refl i j)

body : {text rest : List ℕ} → Inside text rest → Body text rest
body (ends {rest = rest} e) = record { first = 59; further = 41 ∷ []; split = e; moves = λ after. ends refl }
body (byte {text = text} {after = after} {rest = rest} b e o c i) =
    let inner = body i in
    let split : text ≡ b ∷ (inner.first ∷ (inner.further ++ rest)) = e ∙ ap (λ xs. b ∷ xs) inner.split in
    record {
      first = b;
      further = inner.first ∷ inner.further;
      split = split;
      moves = λ next. byte b refl (sym (ap opens split) ∙ o) (sym (ap closes split) ∙ c) (inner.moves next);
    }
body (nested {text = text} {inner = inner} {after = mid} {rest = rest} e i j) =
    let front = body i in
    let back = body j in
    record {
      first = 40;
      further = 59 ∷ front.first ∷ (front.further ++ back.first ∷ back.further);
      split = nested_split text inner mid rest front.first front.further back.first back.further e front.split back.split;
      moves = λ next. nested_moves front.first front.further back.first back.further next (front.moves (back.first ∷ (back.further ++ next))) (back.moves next);
    }

-- the bytes that are skipped, which are skipped before other bytes too if these begin on the same line
pub record Gap (text from : List ℕ) : Type 0 where
  pub bytes : List ℕ
  pub split : text ≡ bytes ++ from
  pub moves : (other : List ℕ) → begins_with in_line other ≡ true → Skip (bytes ++ other) other

-- a line comment ends where it did
line_stops : (bytes from other : List ℕ) → begins_with in_line (bytes ++ from) ≡ false → begins_with in_line from ≡ true → begins_with in_line (bytes ++ other) ≡ false
line_stops [] from other stops goes_on = clash (begins_with in_line from) goes_on stops
line_stops (b ∷ bs) from other stops goes_on = stops

pub gap : {text from : List ℕ} → Skip text from → begins_with in_line from ≡ true → Gap text from
gap (nothing e) h = record { bytes = []; split = e; moves = λ other _. nothing refl }
gap (blank b e is s) h =
    let more = gap s h in
    record { bytes = b ∷ more.bytes; split = e ∙ ap (λ xs. b ∷ xs) more.split; moves = λ other same. blank b refl is (more.moves other same) }
gap (line_comment {text = text} {inner = inner} {after = after} {rest = from} line e l s) h =
    let more = gap s h in
    record {
      bytes = 59 ∷ (line ++ more.bytes);
      split = e ∙ ap (λ xs. 59 ∷ xs) (l.split ∙ ap (λ xs. line ++ xs) more.split ∙ sym (append_assoc line more.bytes from));
      moves = λ other same.
          line_comment line (ap (λ xs. 59 ∷ xs) (append_assoc line more.bytes other))
          (record { split = refl; each = l.each; stops = line_stops more.bytes from other (sym (ap (begins_with in_line) more.split) ∙ l.stops) h })
          (more.moves other same);
    }
gap (block_comment {text = text} {inner = inner} {after = after} {rest = from} e i s) h =
    let more = gap s h in
    let inside = body i in
    record {
      bytes = 40 ∷ 59 ∷ inside.first ∷ (inside.further ++ more.bytes);
      split = e ∙ ap (λ xs. 40 ∷ 59 ∷ xs) (inside.split ∙ ap (λ xs. inside.first ∷ xs) (ap (λ xs. inside.further ++ xs) more.split ∙ sym (append_assoc inside.further more.bytes from)));
      moves = λ other same.
          block_comment (ap (λ xs. 40 ∷ 59 ∷ inside.first ∷ xs) (append_assoc inside.further more.bytes other)) (inside.moves (more.bytes ++ other)) (more.moves other same);
    }
