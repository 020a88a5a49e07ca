-- Texts that are told apart, and what a prefix leaves of them.
use Rattle.std.proofs.Common.{◌≡◌, ◌≢◌, Bor, MatchOption, subst, ℕ, List, [], ◌∷◌, ◌++◌, Bool, true, false, ◌&&◌, Option, None, Some, bytes_eq, eq-eqb, refl, ap, ◌∙◌}
use Rattle.std.proofs.lemmas.Slice.Eq.{bytes_eq-Decides}

pub bytes-are : (xs ys : List ℕ) → bytes_eq xs ys ≡ true → xs ≡ ys
bytes-are xs ys e = (bytes_eq-Decides xs ys).0 e

pub bytes-true : (xs ys : List ℕ) → xs ≡ ys → bytes_eq xs ys ≡ true
bytes-true xs ys e = (bytes_eq-Decides xs ys).1 e

false-at : (xs ys : List ℕ) (b : Bool) → bytes_eq xs ys ≡ b → (xs ≡ ys → ⊥) → b ≡ false
false-at xs ys true is h = absurd (h (bytes-are xs ys is))
false-at xs ys false is h = refl

pub bytes-false : (xs ys : List ℕ) → (xs ≡ ys → ⊥) → bytes_eq xs ys ≡ false
bytes-false xs ys h = false-at xs ys (bytes_eq xs ys) refl h

pub bytes-differ : (xs ys : List ℕ) → bytes_eq xs ys ≡ false → xs ≡ ys → ⊥
bytes-differ xs ys unequal e = let yes : bytes_eq xs ys ≡ true = bytes-true xs ys e in cc

pub same_front : (first last rest : List ℕ) → bytes_eq (first ++ last) (first ++ rest) ≡ bytes_eq last rest
same_front [] last rest = refl
same_front (x ∷ first) last rest = ap (λ b. b && bytes_eq (first ++ last) (first ++ rest)) (eq-eqb x x refl) ∙ same_front first last rest

-- what `strip_prefix` leaves, and what there is where it leaves nothing
pub behind : (bytes part : List ℕ) (r : Option (Bor (List ℕ))) (x : Bor (List ℕ)) → MatchOption r ((rest : List ℕ) → bytes ≢ part ++ rest) (λ y. bytes ≡ part ++ y.now) → r ≡ Some x → bytes ≡ part ++ x.now
behind bytes part r x h is =
    let found : MatchOption (Some x) ((rest : List ℕ) → bytes ≢ part ++ rest) (λ y. bytes ≡ part ++ y.now) = subst (λ o. MatchOption o ((rest : List ℕ) → bytes ≢ part ++ rest) (λ y. bytes ≡ part ++ y.now)) is h in found

pub nothing_behind : (bytes part : List ℕ) (r : Option (Bor (List ℕ))) → MatchOption r ((rest : List ℕ) → bytes ≢ part ++ rest) (λ y. bytes ≡ part ++ y.now) → r ≡ None → (rest : List ℕ) → bytes ≢ part ++ rest
nothing_behind bytes part r h is = subst (λ o. MatchOption o ((rest : List ℕ) → bytes ≢ part ++ rest) (λ y. bytes ≡ part ++ y.now)) is h
