-- Integers stay what they are when something else follows them that begins with the same byte.
use Rattle.std.proofs.Common.{◌≡◌, ℕ, ◌≤◌, List, [], ◌∷◌, ◌++◌, Bool, true, false, length, drop, Option, Some, None, ℤ, is_some, refl, sym, ap, ◌∙◌, arith, length-append, length-drop, eqb, cond}
use Rattle.std.proofs.lemmas.List.{append_cancel_right}
use Rattle.isle_base.specs.Literals.{Literal, behind_minus, behind_prefix, digits_of, has_minus, in_literal, prefix_radix, radix_at, value_of}
use Rattle.isle_base.proofs.Complete.{behind_prefix-le}
use Rattle.isle_index_laws.proofs.edits.Alike.{Alike, alike_begins}

-- the part in front of the rest, by a test
cond_front : (test : Bool) (xs ys rest : List ℕ) → cond test (xs ++ rest) (ys ++ rest) ≡ cond test xs ys ++ rest
cond_front true xs ys rest = refl
cond_front false xs ys rest = refl

minus_front : (b : ℕ) (bs rest : List ℕ) → behind_minus (b ∷ (bs ++ rest)) ≡ cond (eqb b 45) bs (b ∷ bs) ++ rest
minus_front b bs rest = cond_front (eqb b 45) bs (b ∷ bs) rest

-- where a run stands behind the prefix of these bytes, before the rest, it does so before the other, behind the same prefix
record Unmoved (bytes run rest after : List ℕ) : Type 0 where
  run_is : behind_prefix (bytes ++ after) ≡ run ++ after
  radix_is : radix_at (bytes ++ after) ≡ radix_at (bytes ++ rest)

too_long : (run rest text : List ℕ) → text ≡ run ++ rest → length text ≤ length rest → (run ≡ [] → ⊥) → ⊥
too_long [] rest text e le never = never refl
too_long (b ∷ bs) rest text e le never = let same = ap length e in omega (arith, length-append bs rest)

same_prefix : (b : ℕ) (rest after : List ℕ) → Alike rest after → prefix_radix (b ∷ rest) ≡ prefix_radix (b ∷ after)
same_prefix b [] [] h = refl
same_prefix b [] (y ∷ ys) h = absurd h
same_prefix b (x ∷ xs) [] h = absurd h
same_prefix b (x ∷ xs) (y ∷ ys) h = ap (λ c. prefix_radix (b ∷ c ∷ [])) h

one_unmoved : (b : ℕ) (run rest after : List ℕ) → Alike rest after → prefix_radix (b ∷ rest) ≡ None → b ∷ rest ≡ run ++ rest → Unmoved (b ∷ []) run rest after
one_unmoved b run rest after alike none e =
    let same : b ∷ [] ≡ run = append_cancel_right (b ∷ []) run rest e in
    let bare : prefix_radix (b ∷ after) ≡ None = sym (same_prefix b rest after alike) ∙ none in
    record {
      run_is = rw bare (ap (λ xs. xs ++ after) same);
      radix_is = rw (bare, none) refl;
    }

prefix_one : (b : ℕ) (run rest after : List ℕ) → Alike rest after → (run ≡ [] → ⊥) → (radix : Option ℕ) → prefix_radix (b ∷ rest) ≡ radix → behind_prefix (b ∷ rest) ≡ run ++ rest → Unmoved (b ∷ []) run rest after
prefix_one b run rest after alike some None is e =
    one_unmoved b run rest after alike is (sym (ap (λ r. cond (is_some r) (drop 1 rest) (b ∷ rest)) is) ∙ e)
prefix_one b run rest after alike some (Some radix) is e =
    absurd (too_long run rest (drop 1 rest) (sym (ap (λ r. cond (is_some r) (drop 1 rest) (b ∷ rest)) is) ∙ e) (omega (arith, length-drop 1 rest)) some)

prefix_more : (b c : ℕ) (bs run rest after : List ℕ) → behind_prefix (b ∷ c ∷ (bs ++ rest)) ≡ run ++ rest → Unmoved (b ∷ c ∷ bs) run rest after
prefix_more b c bs run rest after e =
    let test : Bool = is_some (prefix_radix (b ∷ c ∷ [])) in
    let front : cond test bs (b ∷ c ∷ bs) ++ rest ≡ run ++ rest = sym (cond_front test bs (b ∷ c ∷ bs) rest) ∙ e in
    let same : cond test bs (b ∷ c ∷ bs) ≡ run = append_cancel_right (cond test bs (b ∷ c ∷ bs)) run rest front in
    record {
      run_is = cond_front test bs (b ∷ c ∷ bs) after ∙ ap (λ xs. xs ++ after) same;
      radix_is = refl;
    }

prefix_moves : (bytes run rest after : List ℕ) → Alike rest after → (run ≡ [] → ⊥) → behind_prefix (bytes ++ rest) ≡ run ++ rest → Unmoved bytes run rest after
prefix_moves [] run rest after alike some e = absurd (too_long run rest (behind_prefix rest) e (behind_prefix-le rest) some)
prefix_moves (b ∷ []) run rest after alike some e = prefix_one b run rest after alike some (prefix_radix (b ∷ rest)) refl e
prefix_moves (b ∷ c ∷ bs) run rest after alike some e = prefix_more b c bs run rest after e

-- a literal with a value has digits
pub has_run : (minus : Bool) (radix : ℕ) (run : List ℕ) (value : ℤ) → Some value ≡ value_of minus radix (digits_of run) → run ≡ [] → ⊥
has_run minus radix run value meaning e = let none = ap (λ xs. value_of minus radix (digits_of xs)) e in cc

pub literal_moves : (b : ℕ) (bs rest after : List ℕ) (value : ℤ) → Alike rest after → Literal (b ∷ (bs ++ rest)) (Some value) rest → Literal (b ∷ (bs ++ after)) (Some value) after
literal_moves b bs rest after value alike l =
    let bytes : List ℕ = cond (eqb b 45) bs (b ∷ bs) in
    let some = has_run (has_minus (b ∷ (bs ++ rest))) (radix_at (behind_minus (b ∷ (bs ++ rest)))) l.run value l.meaning in
    let e : behind_prefix (bytes ++ rest) ≡ l.run ++ rest = sym (ap behind_prefix (minus_front b bs rest)) ∙ l.longest.split in
    let u = prefix_moves bytes l.run rest after alike some e in
    let radix : radix_at (behind_minus (b ∷ (bs ++ rest))) ≡ radix_at (behind_minus (b ∷ (bs ++ after))) =
    ap radix_at (minus_front b bs rest) ∙ sym u.radix_is ∙ sym (ap radix_at (minus_front b bs after)) in
    record {
      begins = l.begins;
      run = l.run;
      longest = record { split = ap behind_prefix (minus_front b bs after) ∙ u.run_is; each = l.longest.each; stops = sym (alike_begins in_literal rest after alike) ∙ l.longest.stops };
      meaning = l.meaning ∙ ap (λ r. value_of (eqb b 45) r (digits_of l.run)) radix;
    }
