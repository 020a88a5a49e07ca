-- An element of a list, found by its number.
use Rattle.std.proofs.Common.{◌≡◌, ◌∙◌, ◌<◌, ◌≤◌, ℕ, Bor, List, Option, None, Some, ap, get_or, length, map, option_map, refl, slice_get, sym}
use Rattle.std.proofs.lemmas.Option.{slice_get-map, slice_get_past, slice_get_read}
use Rattle.std.specs.Slice.{IsItemAt}

pub found_at : {X Y : Type 0} (f : X → Y) (xs : List X) (i : ℕ) (x : X) → i < length xs → x ≡ get_or xs i x → slice_get (map f xs) i ≡ Some (f x)
found_at f xs i x within is = slice_get-map f xs i ∙ ap (option_map f) (slice_get_read xs (length xs) i x refl within is)

pub none_at : {X Y : Type 0} (f : X → Y) (xs : List X) (i : ℕ) → length xs ≤ i → slice_get (map f xs) i ≡ None
none_at f xs i past = slice_get-map f xs i ∙ ap (option_map f) (slice_get_past xs i past)

-- the same of what `get` returns
pub looked_up : {X Y : Type 0} (f : X → Y) (xs : List X) (i : ℕ) (r : Option (Bor X)) → IsItemAt xs i r → option_map (λ b. f b.now) r ≡ slice_get (map f xs) i
looked_up f xs i None h = sym (none_at f xs i h.3)
looked_up f xs i (Some b) h = sym (found_at f xs i b.now h.3.0 h.1)
