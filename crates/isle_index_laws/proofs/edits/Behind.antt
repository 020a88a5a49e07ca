-- The byte right before what follows a number.
use Rattle.std.proofs.Common.{◌≡◌, ℕ, ◌+◌, ◌-◌, List, [], ◌∷◌, ◌++◌, Bool, true, false, ◌==◌, length, drop, take, Some, ℤ, is_some, refl, sym, ap, ◌∙◌, arith, length-append, cond, if◌then◌else◌, append_assoc}
use Rattle.std.proofs.Math.Seq.{get_or-append_seam}
use Rattle.std.proofs.lemmas.Bool.{and_parts, ne_eqb}
use Rattle.std.proofs.lemmas.Bool.Decides.{nat_tests}
use Rattle.std.proofs.lemmas.List.{take-append-drop}
use Rattle.std.proofs.lemmas.Option.{slice_get-get_or}
use Rattle.std.specs.List.{list_all, slice_get}
use Rattle.isle_base.specs.Literals.{Literal, behind_minus, has_minus, in_literal, prefix_radix, radix_at}
use Rattle.isle_lsp_text.specs.Numbers.{ends_number, ends_number_at, is_behind_number}
use Rattle.isle_index_laws.proofs.edits.Numbers.{has_run}

digit_ends : (b : ℕ) → in_literal b ≡ true → ends_number b ≡ true
unfolding in_literal
digit_ends b h = grind (arith, nat_tests)

-- the bytes of a number in front of its digits, and these
pub record Digits (text rest : List ℕ) : Type 0 where
  pub front : List ℕ
  pub run : List ℕ
  pub split : text ≡ front ++ (run ++ rest)
  pub some : run ≡ [] → ⊥
  pub each : list_all in_literal run ≡ true

cut : (test : Bool) (n : ℕ) (text : List ℕ) → (front : List ℕ) × (text ≡ front ++ cond test (drop n text) text)
cut true n text = (take n text, sym (take-append-drop n text))
cut false n text = ([], refl)

pub digits : (text rest : List ℕ) (value : ℤ) → Literal text (Some value) rest → Digits text rest
digits text rest value l =
    let sign = cut (has_minus text) 1 text in
    let unsigned : List ℕ = behind_minus text in
    let prefix = cut (is_some (prefix_radix unsigned)) 2 unsigned in
    record {
      front = sign.0 ++ prefix.0;
      run = l.run;
      split = sign.1 ∙ ap (λ xs. sign.0 ++ xs) (prefix.1 ∙ ap (λ xs. prefix.0 ++ xs) l.longest.split) ∙ sym (append_assoc sign.0 prefix.0 (l.run ++ rest));
      some = has_run (has_minus text) (radix_at unsigned) l.run value l.meaning;
      each = l.longest.each;
    }

-- the last of some bytes
last : (kind : ℕ → Bool) (b : ℕ) (bs : List ℕ) → list_all kind (b ∷ bs) ≡ true → (first : List ℕ) × (c : ℕ) × (b ∷ bs ≡ first ++ (c ∷ [])) × (kind c ≡ true)
last kind b [] h = ([], b, refl, (and_parts (kind b) true h).0)
last kind b (d ∷ bs) h =
    let more = last kind d bs (and_parts (kind b) (list_all kind (d ∷ bs)) h).1 in
    (b ∷ more.0, more.1, ap (λ xs. b ∷ xs) more.2, more.3)

pub last_of : (kind : ℕ → Bool) (bs : List ℕ) → (bs ≡ [] → ⊥) → list_all kind bs ≡ true → (first : List ℕ) × (c : ℕ) × (bs ≡ first ++ (c ∷ [])) × (kind c ≡ true)
last_of kind [] some h = absurd (some refl)
last_of kind (b ∷ bs) some h = last kind b bs h

byte_there : (first : List ℕ) (c : ℕ) (rest : List ℕ) → slice_get (first ++ (c ∷ rest)) (length first) ≡ Some c
byte_there first c rest =
    slice_get-get_or (first ++ (c ∷ rest)) (length first) 0 (omega (arith, length-append first (c ∷ rest))) ∙ ap Some (get_or-append_seam first c rest 0)

-- what follows a byte that can end a number stands behind it
behind_byte : (whole first : List ℕ) (c : ℕ) (rest : List ℕ) (offset : ℕ) → whole ≡ first ++ (c ∷ rest) → offset ≡ length first + 1 → ends_number c ≡ true → is_behind_number whole offset ≡ true
behind_byte whole first c rest offset is at h =
    let less : offset - 1 ≡ length first = omega arith in
    let there : slice_get whole (offset - 1) ≡ Some c = ap (λ n. slice_get whole n) less ∙ ap (λ xs. slice_get xs (length first)) is ∙ byte_there first c rest in
    let some : (offset == 0) ≡ false = ne_eqb offset 0 (λ e. omega arith) in
    ap (λ b. if b then false else ends_number_at (slice_get whole (offset - 1))) some ∙ ap ends_number_at there ∙ h

pub behind_digits : (whole first run rest : List ℕ) (offset : ℕ) → whole ≡ first ++ (run ++ rest) → (run ≡ [] → ⊥) → list_all in_literal run ≡ true →
    length whole ≡ offset + length rest → is_behind_number whole offset ≡ true
behind_digits whole first run rest offset is some each at =
    let end = last_of in_literal run some each in
    let split : whole ≡ (first ++ end.0) ++ (end.1 ∷ rest) =
    is ∙ ap (λ xs. first ++ (xs ++ rest)) end.2 ∙ ap (λ xs. first ++ xs) (append_assoc end.0 (end.1 ∷ []) rest) ∙ sym (append_assoc first end.0 (end.1 ∷ rest)) in
    let size = ap length split in
    behind_byte whole (first ++ end.0) end.1 rest offset split (omega (arith, length-append (first ++ end.0) (end.1 ∷ rest))) (digit_ends end.1 end.3)
