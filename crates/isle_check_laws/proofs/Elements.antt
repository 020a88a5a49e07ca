-- Elements of lists.
use Rattle.std.proofs.Common.{◌≡◌, ◌≢◌, ◌<◌, ℕ, zero, suc, List, [], ◌∷◌, Bool, true, false, cond, Option, Some, map, take, Contains, refl, subst, length, arith, if◌then◌else◌}
use Rattle.std.specs.List.{All, filter, flat_map, slice_get}
use Rattle.std.proofs.lemmas.List.Elements.{All-contains_itself, All-weaker}
use Rattle.isle_check_laws.proofs.Lists.{both_empty, either, first_or_later, here, later, no_element, only}

-- what holds of each element
pub everyone : {X : Type 0} (P : X → Type 0) (xs : List X) → ((x : X) → Contains xs x → P x) → All P xs
everyone P xs h = All-weaker (Contains xs) P h xs (All-contains_itself xs)

-- the only element, if there is one
pub only_if : {X : Type 0} (b : Bool) (x y : X) → Contains (if b then x ∷ [] else []) y → (b ≡ true) × (x ≡ y)
only_if true x y h = (refl, only x y h)
only_if false x y h = absurd (no_element y h)

filtered_by : {X : Type 0} (test : X → Bool) (y : X) (xs : List X) (x : X) (b : Bool) → test y ≡ b →
    (Contains (filter test xs) x → Contains xs x × (test x ≡ true)) →
    Contains (cond b (y ∷ filter test xs) (filter test xs)) x → Contains (y ∷ xs) x × (test x ≡ true)
filtered_by test y xs x true is more h =
    either (λ first. (subst (λ z. Contains (y ∷ xs) z) first (here y xs), subst (λ z. test z ≡ true) first is))
    (λ rest. let at = more rest in (later y xs x at.0, at.1)) (first_or_later y (filter test xs) x h)
filtered_by test y xs x false is more h = let at = more h in (later y xs x at.0, at.1)

-- an element that is kept passes the test
pub filtered : {X : Type 0} (test : X → Bool) (xs : List X) (x : X) → Contains (filter test xs) x → Contains xs x × (test x ≡ true)
filtered test [] x h = absurd (no_element x h)
filtered test (y ∷ xs) x h = filtered_by test y xs x (test y) refl (filtered test xs x) h

-- some are taken of some
pub some_left : {X : Type 0} (n : ℕ) (xs : List X) → 0 < length xs → take (suc n) xs ≢ []
some_left n [] some = absurd (omega (arith, some))
some_left n (x ∷ xs) some = λ e. cc

pub some_mapped : {X Y : Type 0} (f : X → Y) (xs : List X) → xs ≢ [] → map f xs ≢ []
some_mapped f [] some = absurd (some refl)
some_mapped f (x ∷ xs) some = λ e. cc

pub none_mapped : {X Y : Type 0} (f : X → Y) (xs : List X) → map f xs ≡ [] → xs ≡ []
none_mapped f [] h = refl
none_mapped f (x ∷ xs) h = cc

same_in : {X : Type 0} (x y : X) → ◌≡◌ {A = Option X} (Some x) (Some y) → x ≡ y
same_in x y e = cc

-- the element of a number
pub got : {X : Type 0} (xs : List X) (i : ℕ) (x : X) → slice_get xs i ≡ Some x → Contains xs x
got [] i x h = cc
got (y ∷ xs) zero x h = subst (λ z. Contains (y ∷ xs) z) (same_in y x h) (here y xs)
got (y ∷ xs) (suc i) x h = later y xs x (got xs i x h)

pub got_mapped : {X Y : Type 0} (f : X → Y) (xs : List X) (i : ℕ) (y : Y) → slice_get (map f xs) i ≡ Some y → (x : X) × (slice_get xs i ≡ Some x) × (f x ≡ y)
got_mapped f [] i y h = cc
got_mapped f (x ∷ xs) zero y h = (x, refl, cc)
got_mapped f (x ∷ xs) (suc i) y h = got_mapped f xs i y h

-- where the joined parts are empty, each part is
pub parts_empty : {X Y : Type 0} (f : X → List Y) (xs : List X) → flat_map f xs ≡ [] → (x : X) → Contains xs x → f x ≡ []
parts_empty f [] none x h = absurd (no_element x h)
parts_empty f (y ∷ xs) none x h =
    let both = both_empty (f y) (flat_map f xs) none in
    either (λ same. subst (λ z. f z ≡ []) same both.0) (λ more. parts_empty f xs both.1 x more) (first_or_later y xs x h)
