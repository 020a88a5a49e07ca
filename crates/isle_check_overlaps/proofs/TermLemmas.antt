-- Texts of other lengths are not equal.
use Rattle.std.proofs.Common.{◌≡◌, ◌≢◌, ℕ, suc, List, [], ◌∷◌, length, false, nat_eq, ◌&&◌, refl, ap, ◌∙◌}
use Rattle.std.proofs.Math.Bool.{and-false}
use Rattle.std.specs.Str.{bytes_eq}

pub other_lengths : (xs ys : List ℕ) → length xs ≢ length ys → bytes_eq xs ys ≡ false
other_lengths [] [] h = absurd (h refl)
other_lengths [] (y ∷ ys) h = refl
other_lengths (x ∷ xs) [] h = refl
other_lengths (x ∷ xs) (y ∷ ys) h = ap (λ r. nat_eq x y && r) (other_lengths xs ys (λ e. h (ap suc e))) ∙ and-false (nat_eq x y)
