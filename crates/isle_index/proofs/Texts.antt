-- Texts that are changed in some places.
use Rattle.std.proofs.Common.{◌≡◌, ℕ, List, [], ◌∷◌, ◌++◌, Bool, true, false, cond, not, ◌||◌, bytes_eq, length, drop, refl, sym, ap, ◌∙◌, if◌then◌else◌, codes, append_assoc}
use Rattle.std.proofs.Math.Seq.{drop-append_seam}
use Rattle.isle_resolve.proofs.Texts.{bytes-are, bytes-differ, bytes-false, bytes-true, same_front}
use Rattle.isle_resolve.specs.Names.{joined}
use Rattle.isle_index.specs.Renamed.{with_front}
use Rattle.isle_index.specs.Renaming.{is_member}

pub or-false : (a b : Bool) → a || b ≡ false → (a ≡ false) × (b ≡ false)
or-false true b e = let never : true ≡ false = e in absurd (cc)
or-false false b e = (refl, e)

pub or-left : (a b : Bool) → a ≡ true → a || b ≡ true
or-left true b e = refl
or-left false b e = let never : false ≡ true = e in absurd (cc)

pub or-right : (a b : Bool) → b ≡ true → a || b ≡ true
or-right true b e = refl
or-right false b e = e

pub not-true : (a : Bool) → not a ≡ false → a ≡ true
not-true true e = refl
not-true false e = let never : true ≡ false = e in absurd (cc)

-- a text that is changed where it is another, by cases of both tests
swapped : (old new x y : List ℕ) (a b : Bool) → bytes_eq x old ≡ a → bytes_eq y old ≡ b → (x ≡ new → ⊥) → (y ≡ new → ⊥) →
    bytes_eq (cond a new x) (cond b new y) ≡ bytes_eq x y
swapped old new x y true true p q h k = bytes-true new new refl ∙ sym (bytes-true x y (bytes-are x old p ∙ sym (bytes-are y old q)))
swapped old new x y true false p q h k =
    bytes-false new y (λ e. k (sym e)) ∙ sym (bytes-false x y (λ e. bytes-differ y old q (sym e ∙ bytes-are x old p)))
swapped old new x y false true p q h k =
    bytes-false x new h ∙ sym (bytes-false x y (λ e. bytes-differ x old p (e ∙ bytes-are y old q)))
swapped old new x y false false p q h k = refl

-- two texts stay the same or different, where neither is the new one
pub swap-same : (old new x y : List ℕ) → (x ≡ new → ⊥) → (y ≡ new → ⊥) →
    bytes_eq (if bytes_eq x old then new else x) (if bytes_eq y old then new else y) ≡ bytes_eq x y
swap-same old new x y h k = swapped old new x y (bytes_eq x old) (bytes_eq y old) refl refl h k

-- a member has its owner in front
front-by : (owner m : List ℕ) (ms : List (List ℕ)) (text : List ℕ) → (is_member owner ms text ≡ true → (rest : List ℕ) × (text ≡ owner ++ rest)) →
    (b : Bool) → bytes_eq (joined owner m) text ≡ b → b || is_member owner ms text ≡ true → (rest : List ℕ) × (text ≡ owner ++ rest)
front-by owner m ms text later true is e = (codes "." ++ m, sym (bytes-are (joined owner m) text is) ∙ append_assoc owner (codes ".") m)
front-by owner m ms text later false is e = later e

pub front-of : (owner : List ℕ) (ms : List (List ℕ)) (text : List ℕ) → is_member owner ms text ≡ true → (rest : List ℕ) × (text ≡ owner ++ rest)
front-of owner [] text e = let never : false ≡ true = e in absurd (cc)
front-of owner (m ∷ ms) text e = front-by owner m ms text (front-of owner ms text) (bytes_eq (joined owner m) text) refl e

-- what stands behind the front comes behind the new one
pub with_front-is : (old new rest text : List ℕ) → text ≡ old ++ rest → with_front old new text ≡ new ++ rest
with_front-is old new rest text is = ap (λ t. new ++ drop (length old) t) is ∙ ap (λ t. new ++ t) (drop-append_seam old rest)

fronts : (old new : List ℕ) (ms : List (List ℕ)) (x y : List ℕ) (a b : Bool) → is_member old ms x ≡ a → is_member old ms y ≡ b →
    (is_member old ms x ≡ true → with_front old new x ≡ y → ⊥) → (is_member old ms y ≡ true → with_front old new y ≡ x → ⊥) →
    bytes_eq (cond a (with_front old new x) x) (cond b (with_front old new y) y) ≡ bytes_eq x y
fronts old new ms x y true true p q h k =
    let r = front-of old ms x p in
    let s = front-of old ms y q in
    ap (λ t. bytes_eq t (with_front old new y)) (with_front-is old new r.0 x r.1)
    ∙ ap (λ t. bytes_eq (new ++ r.0) t) (with_front-is old new s.0 y s.1)
    ∙ same_front new r.0 s.0
    ∙ sym (same_front old r.0 s.0)
    ∙ sym (ap (λ t. bytes_eq t (old ++ s.0)) r.1)
    ∙ sym (ap (λ t. bytes_eq x t) s.1)
fronts old new ms x y true false p q h k =
    bytes-false (with_front old new x) y (h p) ∙ sym (bytes-false x y (λ e. let both : is_member old ms x ≡ is_member old ms y = ap (is_member old ms) e in absurd (cc)))
fronts old new ms x y false true p q h k =
    bytes-false x (with_front old new y) (λ e. k q (sym e)) ∙ sym (bytes-false x y (λ e. let both : is_member old ms x ≡ is_member old ms y = ap (is_member old ms) e in absurd (cc)))
fronts old new ms x y false false p q h k = refl

-- two texts stay the same or different, where no member with a new front is one of them
pub fronts-same : (old new : List ℕ) (ms : List (List ℕ)) (x y : List ℕ) →
    (is_member old ms x ≡ true → with_front old new x ≡ y → ⊥) → (is_member old ms y ≡ true → with_front old new y ≡ x → ⊥) →
    bytes_eq (if is_member old ms x then with_front old new x else x) (if is_member old ms y then with_front old new y else y) ≡ bytes_eq x y
fronts-same old new ms x y h k = fronts old new ms x y (is_member old ms x) (is_member old ms y) refl refl h k
