-- Positions play no part in which names are writable.
use Rattle.std.proofs.Common.{[], List, ◌∷◌, map, Option, None, Some, IfSome, ◌↔◌}
use Rattle.isle_ast_names.specs.Erased.{erase_name, erase_names, erase_optional}
use Rattle.isle_ast_names.specs.Tree.{Name}
use Rattle.isle_ast_names.specs.Writable.{IsName, Each}

-- what positions play no part in
pub unchanged : {A : Type 0} → A ↔ A
unchanged = (λ h. h, λ h. h)

-- a condition on each element, where it is that on the erased one
pub each-erased : {A : Type 0} (P : A → Type 0) (erased : A → A) → ((x : A) → P (erased x) ↔ P x) → (xs : List A) → Each P (map erased xs) ↔ Each P xs
each-erased P erased same [] = unchanged
each-erased P erased same (x ∷ xs) =
    let behind = each-erased P erased same xs in
    (λ h. ((same x).0 h.0, behind.0 h.1), λ h. ((same x).1 h.0, behind.1 h.1))

pub names-erased : (ns : List Name) → Each IsName (erase_names ns) ↔ Each IsName ns
names-erased = each-erased IsName erase_name (λ n. unchanged)

pub optional-erased : (o : Option Name) → IfSome (erase_optional o) IsName ↔ IfSome o IsName
optional-erased None = unchanged
optional-erased (Some n) = unchanged
