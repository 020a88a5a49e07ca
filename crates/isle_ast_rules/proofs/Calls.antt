-- Calls in order.
use Rattle.std.proofs.Common.{List, [], ◌∷◌, ◌++◌, subst, sym}
use Rattle.std.specs.List.{FoldsTo}

-- calls at the first elements, and then at the others, are calls at all
pub FoldsTo-append : {P A : Type 0} (R : P → A → P → Type 0) (p : P) (xs : List A) (q : P) (ys : List A) (r : P) →
    FoldsTo R p xs q → FoldsTo R q ys r → FoldsTo R p (xs ++ ys) r
FoldsTo-append {P} R p [] q ys r h k = subst (λ (j : P). FoldsTo R j ys r) (sym h) k
FoldsTo-append R p (x ∷ xs) q ys r h k = (h.0, h.1, FoldsTo-append R h.0 xs q ys r h.2 k)
