-- Booleans that are joined.
use Rattle.std.proofs.Common.{◌≡◌, Bool, true, false, not, ◌&&◌, ◌||◌, refl}

pub and_first : (a b : Bool) → (a && b) ≡ true → a ≡ true
and_first true b h = refl
and_first false b h = cc

pub and_second : (a b : Bool) → (a && b) ≡ true → b ≡ true
and_second true b h = h
and_second false b h = cc

pub and_true : (a b : Bool) → a ≡ true → b ≡ true → (a && b) ≡ true
and_true true b g h = h
and_true false b g h = cc

pub or_first : (a b : Bool) → (a || b) ≡ false → a ≡ false
or_first true b h = cc
or_first false b h = refl

pub or_second : (a b : Bool) → (a || b) ≡ false → b ≡ false
or_second true b h = cc
or_second false b h = h

pub or_false : (a b : Bool) → a ≡ false → b ≡ false → (a || b) ≡ false
or_false false b g h = h
or_false true b g h = cc

pub true_first : (a b : Bool) → a ≡ true → (a || b) ≡ true
true_first true b h = refl
true_first false b h = cc

pub true_second : (a b : Bool) → b ≡ true → (a || b) ≡ true
true_second true b h = refl
true_second false b h = h

pub not_true : (a : Bool) → not a ≡ true → a ≡ false
not_true true h = cc
not_true false h = refl

pub not_false : (a : Bool) → a ≡ false → not a ≡ true
not_false true h = cc
not_false false h = refl

pub false_of : (a : Bool) → (a ≡ true → ⊥) → a ≡ false
false_of true h = absurd (h refl)
false_of false h = refl
