-- Bytes that are two texts, one after the other.
use Rattle.std.proofs.Common.{◌≡◌, ℕ, List, [], ◌∷◌, ◌++◌, Bool, true, false, ◌&&◌, length, take, drop, refl}
use Rattle.std.specs.Bool.{nat_eq}
use Rattle.std.specs.Str.{bytes_eq}

both_true : (a b c d : Bool) → (a && b) ≡ true → (b ≡ true → c ≡ d) → c ≡ (a && d)
both_true true b c d both then = then both
both_true false b c d both then = absurd (cc both)

one_false : (a b d : Bool) → (a && b) ≡ false → (b ≡ false → false ≡ d) → false ≡ (a && d)
one_false true b d one then = then one
one_false false b d one then = refl

-- where they begin with the first, the rest is compared with the second
pub joined_same : (bytes first second : List ℕ) → bytes_eq (take (length first) bytes) first ≡ true → bytes_eq (drop (length first) bytes) second ≡ bytes_eq bytes (first ++ second)
joined_same [] [] second same = refl
joined_same (b ∷ bs) [] second same = refl
joined_same [] (f ∷ fs) second same = absurd (cc same)
joined_same (b ∷ bs) (f ∷ fs) second same =
    both_true (nat_eq b f) (bytes_eq (take (length fs) bs) fs) (bytes_eq (drop (length fs) bs) second) (bytes_eq bs (fs ++ second)) same (joined_same bs fs second)

pub joined_other : (bytes first second : List ℕ) → bytes_eq (take (length first) bytes) first ≡ false → false ≡ bytes_eq bytes (first ++ second)
joined_other [] [] second other = absurd (cc other)
joined_other (b ∷ bs) [] second other = absurd (cc other)
joined_other [] (f ∷ fs) second other = refl
joined_other (b ∷ bs) (f ∷ fs) second other =
    one_false (nat_eq b f) (bytes_eq (take (length fs) bs) fs) (bytes_eq bs (fs ++ second)) other (joined_other bs fs second)

pub ruleset joined = (joined_same, joined_other)
