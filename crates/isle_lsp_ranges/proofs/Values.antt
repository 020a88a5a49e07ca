-- Lists of values, made one after another.
use Rattle.std.proofs.Common.{◌≡◌, ℕ, ◌+◌, ◌<◌, ◌≤◌, List, [], ◌∷◌, ◌++◌, length, take, get_or, map, refl, sym, ◌∙◌, ap, add-one}
use Rattle.std.proofs.Math.Seq.{take-suc}
use Rattle.std.proofs.lemmas.List.{map-append, take_all}
use Rattle.serde_json.specs.Data.{Data}
use Rattle.serde_json.specs.View.{view}
use Rattle.serde_json.specs.declared.value.Value.{Value}

-- one value more
pub value_more : {X : Type 0} (f : X → Data) (xs : List X) (i : ℕ) (d : X) (vs : List Value) (v : Value) → i < length xs → map view vs ≡ map f (take i xs) → view v ≡ f (get_or xs i d) → map view (vs ++ v ∷ []) ≡ map f (take (i + 1) xs)
value_more f xs i d vs v h so_far is =
    let t : take (i + 1) xs ≡ take i xs ++ get_or xs i d ∷ [] = rw (add-one, take-suc xs i d h) refl in
    map-append view vs (v ∷ []) ∙ ap (λ l. l ++ view v ∷ []) so_far ∙ ap (λ e. map f (take i xs) ++ e ∷ []) is ∙ sym (map-append f (take i xs) (get_or xs i d ∷ [])) ∙ ap (map f) (sym t)

pub all_values : {X : Type 0} (f : X → Data) (xs : List X) (i : ℕ) (vs : List Value) → length xs ≤ i → map view vs ≡ map f (take i xs) → map view vs ≡ map f xs
all_values f xs i vs h so_far = so_far ∙ ap (map f) (take_all i xs h)
