-- The definitions of a name, in order, among its occurrences in order.
use Rattle.std.proofs.Common.{◌<◌, ℕ, zero, suc, List, [], ◌∷◌, Bool, true, false, arith, cond, filter, get_or, length, set}
use Rattle.std.proofs.lemmas.Cmp.{nat_cmp_total, on_total, then_total}
use Rattle.std.proofs.lemmas.List.Kept.{IsSortedBy-filter}
use Rattle.std.proofs.lemmas.List.Sorted.{IsPermutation-append_left, IsPermutation-cons, IsPermutation-keeps, IsPermutation-refl, IsPermutation-to_front, IsPermutation-trans, ranks_by}
use Rattle.std.specs.Cmp.{IsTotalOrder}
use Rattle.std.specs.List.{swap}
use Rattle.std.specs.List.Sorted.{IsPermutation}
use Rattle.isle_base_source.specs.PositionOrder.{position_cmp}
use Rattle.isle_index.specs.Occurrences.{definitions, occurrences}
use Rattle.isle_index.specs.declared.occurrences.Occurrence.{Occurrence}
use Rattle.isle_lsp_calls.specs.Items.{InOrder}
use Rattle.isle_resolve.specs.Names.{NameNode}
use Rattle.isle_resolve.specs.Scopes.{SeenNode}

-- two elements, each of which may be left out, change places
turned : {X : Type 0} (s t : Bool) (a b : X) (xs : List X)
    → IsPermutation (cond s (a ∷ cond t (b ∷ xs) xs) (cond t (b ∷ xs) xs)) (cond t (b ∷ cond s (a ∷ xs) xs) (cond s (a ∷ xs) xs))
turned true true a b xs = IsPermutation-append_left xs (a ∷ b ∷ []) (b ∷ a ∷ []) (IsPermutation-to_front (a ∷ []) b)
turned true false a b xs = IsPermutation-refl (a ∷ xs)
turned false true a b xs = IsPermutation-refl (b ∷ xs)
turned false false a b xs = IsPermutation-refl xs

behind : {X : Type 0} (s : Bool) (a : X) (xs ys : List X) → IsPermutation xs ys → IsPermutation (cond s (a ∷ xs) xs) (cond s (a ∷ ys) ys)
behind true a xs ys h = IsPermutation-cons a xs ys h
behind false a xs ys h = h

-- the first element and a later one change places
first_turned : {X : Type 0} (p : X → Bool) (a : X) (xs : List X) (k : ℕ) (d : X) → k < length xs → IsPermutation (filter p (a ∷ xs)) (filter p (get_or xs k d ∷ set xs k a))
first_turned p a [] k d h = absurd (omega (arith, h))
first_turned p a (x ∷ xs) zero d h = turned (p a) (p x) a x (filter p xs)
first_turned p a (x ∷ xs) (suc k) d h =
    let b = get_or xs k d in
    let rest = first_turned p a xs k d (omega (arith, h)) in
    IsPermutation-trans _ _ _ (turned (p a) (p x) a x (filter p xs))
    (IsPermutation-trans _ _ _ (behind (p x) x _ _ rest) (turned (p x) (p b) x b (filter p (set xs k a))))

both_turned : {X : Type 0} (p : X → Bool) (xs : List X) (i j : ℕ) (d : X) → i < length xs → j < length xs
    → IsPermutation (filter p xs) (filter p (set (set xs i (get_or xs j d)) j (get_or xs i d)))
both_turned p [] i j d h k = absurd (omega (arith, h))
both_turned p (x ∷ xs) zero zero d h k = IsPermutation-refl _
both_turned p (x ∷ xs) zero (suc j) d h k = first_turned p x xs j d (omega (arith, k))
both_turned p (x ∷ xs) (suc i) zero d h k = first_turned p x xs i d (omega (arith, h))
both_turned p (x ∷ xs) (suc i) (suc j) d h k = behind (p x) x _ _ (both_turned p xs i j d (omega (arith, h)) (omega (arith, k)))

swapped : {X : Type 0} (p : X → Bool) (xs l : List X) (i j : ℕ) → i < length l → j < length l → IsPermutation (filter p xs) (filter p l)
    → IsPermutation (filter p xs) (filter p (swap l i j))
swapped p xs [] i j h k so = so
swapped p xs (d ∷ l) i j h k so = IsPermutation-trans _ _ _ so (both_turned p (d ∷ l) i j d h k)

-- what passes a test is the same in another order
same_kept : {X : Type 0} (p : X → Bool) (xs ys : List X) → IsPermutation xs ys → IsPermutation (filter p xs) (filter p ys)
same_kept p xs ys h = IsPermutation-keeps xs (λ l. IsPermutation (filter p xs) (filter p l)) (IsPermutation-refl _) (swapped p xs) ys h

position_total : IsTotalOrder position_cmp
position_total = then_total (on_total (λ p. p.file) nat_cmp_total) (on_total (λ p. p.offset) nat_cmp_total)

pub defined_in_order : (name : NameNode) (all : List SeenNode) (found : List Occurrence)
    → InOrder (occurrences name all) found → InOrder (definitions name all) (filter (λ o. o.is_definition) found)
defined_in_order name all found order = record {
  exact = same_kept (λ o. o.is_definition) _ found order.exact;
  in_order = IsSortedBy-filter _ (ranks_by position_total (λ o. o.pos)) (λ o. o.is_definition) found order.in_order;
}
