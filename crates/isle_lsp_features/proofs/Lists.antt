-- Lists of data, made one after another.
use Rattle.std.proofs.Common.{◌≡◌, ℕ, ◌≤◌, List, [], ◌∷◌, length, take, map, refl, ◌∙◌, ap}
use Rattle.std.proofs.lemmas.List.{take_all}
use Rattle.serde_json.specs.Data.{Data}

pub each_of : {X : Type 0} (f : X → Data) (xs : List X) (i : ℕ) (ds : List Data) → length xs ≤ i → ds ≡ map f (take i xs) → ds ≡ map f xs
each_of f xs i ds h so_far = so_far ∙ ap (map f) (take_all i xs h)

pub map_map : {X Y : Type 0} (f : Y → Data) (g : X → Y) (xs : List X) → map (λ x. f (g x)) xs ≡ map f (map g xs)
map_map f g [] = refl
map_map f g (x ∷ xs) = ap (λ l. f (g x) ∷ l) (map_map f g xs)
