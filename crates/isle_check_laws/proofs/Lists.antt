-- What stands in lists, and what holds of each element.
use Rattle.std.proofs.Common.{◌≡◌, ◌⊎◌, inl, inr, List, [], ◌∷◌, ◌++◌, map, Bool, true, false, ◌&&◌, Option, None, Some, Contains, refl, ap, sym, ◌∙◌, subst, append_assoc, arith, if◌then◌else◌}
use Rattle.std.specs.List.{All, flat_map}
use Rattle.std.proofs.lemmas.List.Elements.{All-append, All-cons, All-nil, Contains-append_cases, Contains-append_left, Contains-append_right, Contains-push, Contains-push_cases}
use Rattle.isle_check_declarations.specs.Faults.{FaultNode, first_of, optional}
use Rattle.isle_check_laws.specs.Named.{StandsBehind}

pub no_element : {X : Type 0} (x : X) → Contains [] x → ⊥
no_element x h = grind arith

pub here : {X : Type 0} (x : X) (xs : List X) → Contains (x ∷ xs) x
here x xs = Contains-append_left (x ∷ []) xs x (Contains-push [] x)

pub later : {X : Type 0} (y : X) (xs : List X) (x : X) → Contains xs x → Contains (y ∷ xs) x
later y xs x h = Contains-append_right (y ∷ []) xs x h

-- by the one or the other
pub either : {A B C : Type 0} → (A → C) → (B → C) → A ⊎ B → C
either f g (inl a) = f a
either f g (inr b) = g b

-- an element of a list is the first one or one of the others
pub first_or_later : {X : Type 0} (y : X) (xs : List X) (x : X) → Contains (y ∷ xs) x → (y ≡ x) ⊎ Contains xs x
first_or_later y xs x h =
    either (λ one. either (λ none. absurd (no_element x none)) inl (Contains-push_cases [] y x one)) inr (Contains-append_cases (y ∷ []) xs x h)

-- the only element
pub only : {X : Type 0} (y x : X) → Contains (y ∷ []) x → y ≡ x
only y x h = either (λ same. same) (λ none. absurd (no_element x none)) (first_or_later y [] x h)

-- an element of the joined parts is one of a part
pub in_part : {X Y : Type 0} (f : X → List Y) (xs : List X) (y : Y) → Contains (flat_map f xs) y → (x : X) × Contains xs x × Contains (f x) y
in_part f [] y h = absurd (no_element y h)
in_part f (x ∷ xs) y h =
    either (λ first. (x, here x xs, first)) (λ more. let at = in_part f xs y more in (at.0, later x xs at.0 at.1, at.2))
    (Contains-append_cases (f x) (flat_map f xs) y h)

pub part_in : {X Y : Type 0} (f : X → List Y) (xs : List X) (x : X) (y : Y) → Contains xs x → Contains (f x) y → Contains (flat_map f xs) y
part_in f [] x y among is = absurd (no_element x among)
part_in f (z ∷ xs) x y among is =
    either (λ same. Contains-append_left (f z) (flat_map f xs) y (subst (λ w. Contains (f w) y) (sym same) is))
    (λ more. Contains-append_right (f z) (flat_map f xs) y (part_in f xs x y more is)) (first_or_later z xs x among)

pub mapped : {X Y : Type 0} (f : X → Y) (xs : List X) (x : X) → Contains xs x → Contains (map f xs) (f x)
mapped f [] x among = absurd (no_element x among)
mapped f (z ∷ xs) x among =
    either (λ same. subst (λ w. Contains (f z ∷ map f xs) (f w)) same (here (f z) (map f xs)))
    (λ more. later (f z) (map f xs) (f x) (mapped f xs x more)) (first_or_later z xs x among)

pub from_map : {X Y : Type 0} (f : X → Y) (xs : List X) (y : Y) → Contains (map f xs) y → (x : X) × Contains xs x × (f x ≡ y)
from_map f [] y h = absurd (no_element y h)
from_map f (z ∷ xs) y h =
    either (λ same. (z, here z xs, same)) (λ more. let at = from_map f xs y more in (at.0, later z xs at.0 at.1, at.2))
    (first_or_later (f z) (map f xs) y h)

pub map-append : {X Y : Type 0} (f : X → Y) (xs ys : List X) → map f (xs ++ ys) ≡ map f xs ++ map f ys
map-append f [] ys = refl
map-append f (x ∷ xs) ys = ap (λ zs. f x ∷ zs) (map-append f xs ys)

-- what stands behind others is one of the list
pub stands_in : {X : Type 0} (xs before : List X) (x : X) → StandsBehind xs before x → Contains xs x
stands_in xs before x (behind, is) = subst (λ ys. Contains ys x) (sym is) (Contains-append_right before (x ∷ behind) x (here x behind))

-- one step on in a list
pub step : {X : Type 0} (xs before : List X) (x : X) (more : List X) → xs ≡ before ++ x ∷ more → xs ≡ (before ++ x ∷ []) ++ more
step xs before x more is = is ∙ sym (append_assoc before (x ∷ []) more)

-- what holds of each part holds of the joined parts
pub all_parts : {X Y : Type 0} (P : Y → Type 0) (f : X → List Y) (xs : List X) → ((x : X) → Contains xs x → All P (f x)) → All P (flat_map f xs)
all_parts P f [] h = All-nil P
all_parts P f (x ∷ xs) h = All-append P (f x) (flat_map f xs) (h x (here x xs)) (all_parts P f xs (λ y among. h y (later x xs y among)))

pub one : {Y : Type 0} (P : Y → Type 0) (y : Y) → P y → All P (y ∷ [])
one P y h = All-cons P y [] h (All-nil P)

pub two : {Y : Type 0} (P : Y → Type 0) (y z : Y) → P y → P z → All P (y ∷ z ∷ [])
two P y z h k = All-cons P y (z ∷ []) h (one P z k)

-- a choice by a test
pub choice : {Y : Type 0} (P : Y → Type 0) (b : Bool) (xs ys : List Y) → (b ≡ true → All P xs) → (b ≡ false → All P ys) → All P (if b then xs else ys)
choice P true xs ys h k = h refl
choice P false xs ys h k = k refl

pub optional_choice : (P : FaultNode → Type 0) (b : Bool) (o p : Option FaultNode) → (b ≡ true → All P (optional o)) → (b ≡ false → All P (optional p)) →
    All P (optional (if b then o else p))
optional_choice P true o p h k = h refl
optional_choice P false o p h k = k refl

pub optional_first : (P : FaultNode → Type 0) (o p : Option FaultNode) → All P (optional o) → All P (optional p) → All P (optional (first_of o p))
optional_first P None p h k = k
optional_first P (Some f) p h k = h

-- two lists that are empty together
pub both_empty : {X : Type 0} (xs ys : List X) → xs ++ ys ≡ [] → (xs ≡ []) × (ys ≡ [])
both_empty [] ys h = (refl, h)
both_empty (x ∷ xs) ys h = cc

pub both_true : (a b : Bool) → (a && b) ≡ true → (a ≡ true) × (b ≡ true)
both_true true b h = (refl, h)
both_true false b h = cc
