-- The comparison of two lists, one element after another.
use Rattle.std.proofs.Common.{◌≡◌, ℕ, suc, ◌+◌, ◌<◌, ◌≤◌, List, [], ◌∷◌, Bool, true, false, ◌&&◌, length, drop, slice_index_or, refl, sym, ap, subst, ◌∙◌, add-one, rules, Global}
use Rattle.std.proofs.Math.Seq.{drop-cons}
use Rattle.std.specs.declared.vec.Vec.{Vec}
use Rattle.std.specs.Vec.{vec_len}
use Rattle.std.proofs.lemmas.List.{drop_all}

-- Two lists are the same where they are as long, and the elements in each place are the same.
pub record AreLists {A : Type 0} (lists : List A → List A → Bool) (test : A → A → Bool) : Type 0 where
  pub ended : lists [] [] ≡ true
  pub first : (x y : A) (xs ys : List A) → lists (x ∷ xs) (y ∷ ys) ≡ (test x y && lists xs ys)
  pub shorter : (y : A) (ys : List A) → lists [] (y ∷ ys) ≡ false
  pub longer : (x : A) (xs : List A) → lists (x ∷ xs) [] ≡ false

and_false : (a : Bool) → (a && false) ≡ false
and_false true = refl
and_false false = refl

-- lists of two lengths aren't the same
pub uneven_lists : {A : Type 0} {lists : List A → List A → Bool} {test : A → A → Bool} → AreLists lists test →
    (xs ys : List A) → (length xs ≡ length ys → ⊥) → false ≡ lists xs ys
uneven_lists r [] [] uneven = absurd (uneven refl)
uneven_lists r [] (y ∷ ys) uneven = sym (r.shorter y ys)
uneven_lists r (x ∷ xs) [] uneven = sym (r.longer x xs)
uneven_lists {test = test} r (x ∷ xs) (y ∷ ys) uneven =
    let rest = uneven_lists r xs ys (λ e. uneven (ap suc e)) in
    sym (and_false (test x y)) ∙ ap (λ b. test x y && b) rest ∙ sym (r.first x y xs ys)

list_from : {A : Type 0} (xs : List A) (i : ℕ) (x : A) → i < length xs → x ≡ slice_index_or xs i x → drop i xs ≡ x ∷ drop (i + 1) xs
list_from xs i x h e = drop-cons xs i x h ∙ (λ j. sym e j ∷ drop (sym (add-one i) j) xs)

-- Where lists of one length are compared from an index on, as the whole lists, one element further is the
-- test of the elements there, and the rest.
pub lists_step : {A : Type 0} {lists : List A → List A → Bool} {test : A → A → Bool} → AreLists lists test →
    (xs ys : List A) (i : ℕ) (x y : A) (same : Bool) → i < length xs → length xs ≡ length ys →
    x ≡ slice_index_or xs i x → y ≡ slice_index_or ys i y → same ≡ test x y →
    lists (drop i xs) (drop i ys) ≡ lists xs ys → (same && lists (drop (i + 1) xs) (drop (i + 1) ys)) ≡ lists xs ys
lists_step {lists = lists} r xs ys i x y same h even e k told whole =
    let p = list_from xs i x h e in
    let q = list_from ys i y (subst (λ n. i < n) even h) k in
    let next = (λ j. lists (p j) (q j)) ∙ r.first x y (drop (i + 1) xs) (drop (i + 1) ys) in
    ap (λ b. b && lists (drop (i + 1) xs) (drop (i + 1) ys)) told ∙ sym next ∙ whole

-- past the end of both, nothing differs
pub lists_end : {A : Type 0} {lists : List A → List A → Bool} {test : A → A → Bool} → AreLists lists test →
    (xs ys : List A) (i : ℕ) → length xs ≤ i → length xs ≡ length ys → lists (drop i xs) (drop i ys) ≡ lists xs ys → true ≡ lists xs ys
lists_end {lists = lists} r xs ys i h even whole =
    let p = drop_all i xs h in
    let q = drop_all i ys (subst (λ n. n ≤ i) even h) in
    sym r.ended ∙ sym (λ j. lists (p j) (q j)) ∙ whole

pub count : {A : Type 0} (v : Vec A Global) → vec_len v ≡ length v.items
count v = search rules
