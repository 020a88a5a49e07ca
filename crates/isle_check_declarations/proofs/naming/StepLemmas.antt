-- Loops over definitions, one step on.
use Rattle.std.proofs.Common.{◌≡◌, ℕ, List, ◌∷◌, ◌++◌, [], ◌<◌, ◌+◌, length, get_or, drop, map, sym, ap, ◌∙◌, append_assoc}
use Rattle.std.proofs.lemmas.List.{append-nil, at_drop_more}
use Rattle.isle_check_declarations.specs.Faults.{FaultNode}

pub next : {X V Y : Type 0} (view : X → V) (f : List V → Y) (xs : List X) (i : ℕ) (x : X) → i < length xs → x ≡ get_or xs i x →
    f (map view (drop i xs)) ≡ f (view x ∷ map view (drop (i + 1) xs))
next view f xs i x within is =
    at_drop_more (λ ys. f (map view ys)) xs i x within ∙ ap (λ y. f (view y ∷ map view (drop (i + 1) xs))) (sym is)

-- the errors of one definition are added, and those of later ones remain
pub added : {X V : Type 0} (view : X → V) (wrong later : List V → List FaultNode) (one before after : List FaultNode) (xs : List X) (i : ℕ) (x : X) →
    i < length xs → x ≡ get_or xs i x → ((vs : List V) → wrong (view x ∷ vs) ≡ one ++ later vs) → after ≡ before ++ one →
    after ++ later (map view (drop (i + 1) xs)) ≡ before ++ wrong (map view (drop i xs))
added {X} {V} view wrong later one before after xs i x within is splits adds =
    let rest : List V = map view (drop (i + 1) xs) in
    ap (λ fs. fs ++ later rest) adds
    ∙ append_assoc before one (later rest)
    ∙ ap (λ fs. before ++ fs) (sym (splits rest))
    ∙ sym (next view (λ vs. before ++ wrong vs) xs i x within is)

-- no definitions are left
pub nothing-left : {X : Type 0} (front : List FaultNode) (later : List X → List FaultNode) (rest : List X) → rest ≡ [] → later [] ≡ [] →
    front ++ later rest ≡ front
nothing-left front later rest none empty = ap (λ xs. front ++ later xs) none ∙ ap (λ ys. front ++ ys) empty ∙ append-nil front
