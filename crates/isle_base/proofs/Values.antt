-- The value of a literal, from its parts as the code reads them.
use Rattle.std.proofs.Common.{◌≡◌, ℕ, ℤ, ◌+◌, ◌-◌, ◌^◌, ◌≤◌, List, [], ◌∷◌, Bool, true, false, Option, Some, None, is_some, inl, inr, length, drop, take, refl, sym, ap, subst, ⊎_elim, ◌∙◌, ◌&&◌, ◌||◌, eqb, ltb, arith, length-drop}
use Rattle.std.specs.List.{prefix_len, take_while}
use Rattle.std.proofs.lemmas.Bool.{cases_Bool, and_cases, cond-true, cond-false, cond_both, ltb-false, le-ltb, both_ways}
use Rattle.std.proofs.lemmas.List.{drop-drop}
use Rattle.isle_base.specs.Literals.{begins_literal, in_literal, has_minus, behind_minus, radix_of, prefix_radix, radix_at, behind_prefix, digits_of, number_of, are_digits, signed, value_of, Literal}
use Rattle.isle_base.specs.Reads.{IsRadix}
use Rattle.isle_base.specs.Skips.{begins_with, Longest}
use Rattle.isle_base.proofs.Runs.{longest_from}

abbrev Known : ℕ → Option ℕ → Type 0
Known radix o = o ≡ Some radix → IsRadix radix

letter_known : (b radix : ℕ) → Known radix (radix_of b)
unfolding radix_of
letter_known b radix =
    cond_both (eqb b 120 || eqb b 88) _ _ (Known radix) (λ _ e. let is : 16 ≡ radix = cc in inr (inr (inr (sym is))))
    (λ _. cond_both (eqb b 111 || eqb b 79) _ _ (Known radix) (λ _ e. let is : 8 ≡ radix = cc in inr (inl (sym is)))
    (λ _. cond_both (eqb b 98 || eqb b 66) _ _ (Known radix) (λ _ e. let is : 2 ≡ radix = cc in inl (sym is)) (λ _ e. cc)))

pub radix_known : (text : List ℕ) (radix : ℕ) → prefix_radix text ≡ Some radix → IsRadix radix
radix_known [] radix h = cc
radix_known (a ∷ []) radix h = cc
radix_known (a ∷ b ∷ rest) radix h = cond_both (eqb a 48) (radix_of b) None (Known radix) (λ _. letter_known b radix) (λ _ e. cc) h

two_left : (text : List ℕ) (radix : ℕ) → prefix_radix text ≡ Some radix → 2 ≤ length text
two_left [] radix h = cc
two_left (a ∷ []) radix h = cc
two_left (a ∷ b ∷ rest) radix h = omega arith

pub prefix_room : (bytes : List ℕ) (at radix : ℕ) → prefix_radix (drop at bytes) ≡ Some radix → at + 2 ≤ length bytes
prefix_room bytes at radix h = omega (arith, two_left (drop at bytes) radix h, length-drop at bytes)

pub prefix_passed : (bytes : List ℕ) (at radix : ℕ) → prefix_radix (drop at bytes) ≡ Some radix → drop (at + 2) bytes ≡ behind_prefix (drop at bytes)
prefix_passed bytes at radix h =
    sym (cond-true (is_some (prefix_radix (drop at bytes))) (drop 2 (drop at bytes)) (drop at bytes) (ap is_some h) ∙ drop-drop 2 at bytes)

pub prefix_absent : (bytes : List ℕ) (at : ℕ) → prefix_radix (drop at bytes) ≡ None → drop at bytes ≡ behind_prefix (drop at bytes)
prefix_absent bytes at h = sym (cond-false (is_some (prefix_radix (drop at bytes))) (drop 2 (drop at bytes)) (drop at bytes) (ap is_some h))

pub sign_passed : (bytes : List ℕ) (at : ℕ) → has_minus (drop at bytes) ≡ true → drop (at + 1) bytes ≡ behind_minus (drop at bytes)
sign_passed bytes at h = sym (cond-true (has_minus (drop at bytes)) (drop 1 (drop at bytes)) (drop at bytes) h ∙ drop-drop 1 at bytes)

pub sign_absent : (bytes : List ℕ) (at : ℕ) → has_minus (drop at bytes) ≡ false → drop at bytes ≡ behind_minus (drop at bytes)
sign_absent bytes at h = sym (cond-false (has_minus (drop at bytes)) (drop 1 (drop at bytes)) (drop at bytes) h)

pub value_some : (minus : Bool) (radix n : ℕ) (ds : List ℕ) → are_digits radix ds ≡ true → number_of radix ds ≡ n → value_of minus radix ds ≡ signed minus n
value_some minus radix n ds digits number = cond-true (are_digits radix ds) (signed minus (number_of radix ds)) None digits ∙ ap (signed minus) number

signed_over : (minus : Bool) (n : ℕ) → 2 ^ 128 ≤ n → signed minus n ≡ None
signed_over true n h = rw (le-ltb n (2 ^ 127) (omega arith)) refl
signed_over false n h = rw (le-ltb n (2 ^ 127) (omega arith), le-ltb n (2 ^ 128) h) refl

pub value_none : (minus : Bool) (radix : ℕ) (ds : List ℕ) → (are_digits radix ds && ltb (number_of radix ds) (2 ^ 128)) ≡ false → value_of minus radix ds ≡ None
value_none minus radix ds h =
    ⊎_elim
    (λ digits. ⊎_elim
    (λ none. absurd (both_ways (are_digits radix ds) none digits))
    (λ over. value_some minus radix (number_of radix ds) ds digits refl ∙ signed_over minus (number_of radix ds) (ltb-false (number_of radix ds) (2 ^ 128) over))
    (and_cases (are_digits radix ds) (ltb (number_of radix ds) (2 ^ 128)) h))
    (λ none. cond-false (are_digits radix ds) (signed minus (number_of radix ds)) None none)
    (cases_Bool (are_digits radix ds))

-- a literal from an offset on: its sign, its digits from `start` on, and its end
literal_here : (bytes : List ℕ) (from unsigned start end : ℕ) (value : Option ℤ) → begins_with begins_literal (drop from bytes) ≡ true → drop unsigned bytes ≡ behind_minus (drop from bytes) → drop start bytes ≡ behind_prefix (drop unsigned bytes) → end ≡ start + prefix_len in_literal (drop start bytes) → value_of (has_minus (drop from bytes)) (radix_at (drop unsigned bytes)) (digits_of (take (end - start) (drop start bytes))) ≡ value → Literal (drop from bytes) value (drop end bytes)
literal_here bytes from unsigned start end value begins sign prefix stop meaning =
    let count : end - start ≡ prefix_len in_literal (drop start bytes) = omega arith in
    let run : take (end - start) (drop start bytes) ≡ take_while in_literal (drop start bytes) = ap (λ n. take n (drop start bytes)) count in
    let from_here = longest_from in_literal bytes start end stop in
    let place : drop start bytes ≡ behind_prefix (behind_minus (drop from bytes)) = prefix ∙ ap behind_prefix sign in
    record {
      begins = begins;
      run = take_while in_literal (drop start bytes);
      longest = subst (λ xs. Longest in_literal xs (take_while in_literal (drop start bytes)) (drop end bytes)) place from_here;
      meaning = sym (ap (λ xs. value_of (has_minus (drop from bytes)) (radix_at (behind_minus (drop from bytes))) (digits_of xs)) (sym run) ∙ ap (λ xs. value_of (has_minus (drop from bytes)) (radix_at xs) (digits_of (take (end - start) (drop start bytes)))) (sym sign) ∙ meaning);
    }

pub literal_from : (bytes : List ℕ) (from unsigned start end radix : ℕ) (minus : Bool) (value : Option ℤ) → begins_with begins_literal (drop from bytes) ≡ true → minus ≡ has_minus (drop from bytes) → drop unsigned bytes ≡ behind_minus (drop from bytes) → radix ≡ radix_at (drop unsigned bytes) → drop start bytes ≡ behind_prefix (drop unsigned bytes) → end ≡ start + prefix_len in_literal (drop start bytes) → value_of minus radix (digits_of (take (end - start) (drop start bytes))) ≡ value → Literal (drop from bytes) value (drop end bytes)
literal_from bytes from unsigned start end radix minus value begins has sign known prefix stop meaning =
    literal_here bytes from unsigned start end value begins sign prefix stop
    (ap (λ m. value_of m (radix_at (drop unsigned bytes)) (digits_of (take (end - start) (drop start bytes)))) (sym has) ∙ ap (λ r. value_of minus r (digits_of (take (end - start) (drop start bytes)))) (sym known) ∙ meaning)
