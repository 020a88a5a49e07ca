-- The entries of a map, as they are added.
use Rattle.std.proofs.Common.{◌≡◌, ℕ, List, [], ◌∷◌, ◌++◌, Bool, true, false, cond, Option, None, Some, refl, ap, ◌∙◌, option_map, string_bytes, if◌then◌else◌}
use Rattle.std.specs.HashMap.{UpdatesBy, get_by_text}
use Rattle.std.specs.Str.{bytes_eq}
use Rattle.std.specs.String.{string_eq}
use Rattle.std.proofs.lemmas.Map.Text.{hash_map_updates_text}
use Rattle.isle_check_environment.specs.ByText.{ByText}
use Rattle.isle_check_environment.specs.signatures.Entries.{Entry, Holds, entry, or_else, value_of}

first-or_else : {Y : Type 0} (b : Bool) (y : Y) (x hit : Option Y) → cond b (Some y) (or_else x hit) ≡ or_else (cond b (Some y) x) hit
first-or_else true y x hit = refl
first-or_else false y x hit = refl

-- one more entry at the end comes first
value_of-last : {Y : Type 0} (entries : List (Entry Y)) (e : Entry Y) (text : List ℕ) →
    cond (bytes_eq e.text text) (Some e.value) (value_of entries text) ≡ value_of (entries ++ e ∷ []) text
value_of-last [] e text = refl
value_of-last (k ∷ ks) e text =
    first-or_else (bytes_eq e.text text) e.value (value_of ks text) (if bytes_eq k.text text then Some k.value else None)
    ∙ ap (λ x. or_else x (if bytes_eq k.text text then Some k.value else None)) (value_of-last ks e text)

pub map-cond : {V Y : Type 0} (view : V → Y) (b : Bool) (v : V) (x : Option V) →
    option_map view (cond b (Some v) x) ≡ cond b (Some (view v)) (option_map view x)
map-cond view true v x = refl
map-cond view false v x = refl

-- a map that has one more text holds one more entry
pub Holds-put : {V Y : Type 0} (view : V → Y) (m n : ByText V) (text : List ℕ) (value : V) (entries : List (Entry Y)) →
    UpdatesBy string_eq (λ k. bytes_eq text (string_bytes k)) m n (Some value) →
    Holds view m entries → Holds view n (entries ++ entry text (view value) ∷ [])
Holds-put view m n text value entries updates holds asked =
    ap (option_map view) (hash_map_updates_text text m n (Some value) updates asked)
    ∙ map-cond view (bytes_eq text asked) value (get_by_text m asked)
    ∙ ap (λ x. cond (bytes_eq text asked) (Some (view value)) x) (holds asked)
    ∙ value_of-last entries (entry text (view value)) asked
