-- How deep macros reach, before any of that is found out.
use Rattle.std.proofs.Common.{◌≡◌, ℕ, List, [], ◌∷◌, length, map, replicate, refl, ap}

pub nothing_each : {A B : Type 0} (f : A → B) (xs : List A) → replicate {A = ℕ} (length xs) 0 ≡ map (λ _. 0) (map f xs)
nothing_each f [] = refl
nothing_each f (x ∷ xs) = ap (λ ns. 0 ∷ ns) (nothing_each f xs)
