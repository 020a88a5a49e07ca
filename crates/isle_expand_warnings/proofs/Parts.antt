-- Bytes that begin with a part.
use Rattle.std.proofs.Common.{◌≡◌, ◌≢◌, ◌&&◌, MatchOption, Bor, bytes_eq, eq-eqb, ℕ, List, [], ◌∷◌, ◌++◌, Bool, true, false, Option, None, Some, refl, ap, subst, ◌∙◌}
use Rattle.std.proofs.lemmas.Slice.Eq.{bytes_eq-Decides}

-- of bytes that begin with a part, what comes behind it
pub behind : (bytes part : List ℕ) (r : Option (Bor (List ℕ))) (x : Bor (List ℕ)) → MatchOption r ((rest : List ℕ) → bytes ≢ part ++ rest) (λ y. bytes ≡ part ++ y.now) → r ≡ Some x → bytes ≡ part ++ x.now
behind bytes part r x h is = let found : MatchOption (Some x) ((rest : List ℕ) → bytes ≢ part ++ rest) (λ y. bytes ≡ part ++ y.now) = subst (λ o. MatchOption o ((rest : List ℕ) → bytes ≢ part ++ rest) (λ y. bytes ≡ part ++ y.now)) is h in found

pub nothing_behind : (bytes part : List ℕ) (r : Option (Bor (List ℕ))) → MatchOption r ((rest : List ℕ) → bytes ≢ part ++ rest) (λ y. bytes ≡ part ++ y.now) → r ≡ None → (rest : List ℕ) → bytes ≢ part ++ rest
nothing_behind bytes part r h is = subst (λ o. MatchOption o ((rest : List ℕ) → bytes ≢ part ++ rest) (λ y. bytes ≡ part ++ y.now)) is h

unequal_at : (xs ys : List ℕ) (b : Bool) → bytes_eq xs ys ≡ b → (xs ≡ ys → ⊥) → false ≡ b
unequal_at xs ys true is h = absurd (h ((bytes_eq-Decides xs ys).0 is))
unequal_at xs ys false is h = refl

pub unequal_bytes : (xs ys : List ℕ) → (xs ≡ ys → ⊥) → false ≡ bytes_eq xs ys
unequal_bytes xs ys h = unequal_at xs ys (bytes_eq xs ys) refl h

pub same_front : (first last rest : List ℕ) → bytes_eq (first ++ last) (first ++ rest) ≡ bytes_eq last rest
same_front [] last rest = refl
same_front (x ∷ first) last rest = ap (λ b. b && bytes_eq (first ++ last) (first ++ rest)) (eq-eqb x x refl) ∙ same_front first last rest
