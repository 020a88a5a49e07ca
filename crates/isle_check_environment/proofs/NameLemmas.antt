-- The names of a map, as they are added.
use Rattle.std.proofs.Common.{◌≡◌, ℕ, List, [], ◌∷◌, ◌++◌, Bool, true, false, cond, Option, None, Some, is_some, ◌||◌, refl, ap, ◌∙◌, string_bytes, if◌then◌else◌}
use Rattle.std.specs.HashMap.{UpdatesBy}
use Rattle.std.specs.Str.{bytes_eq}
use Rattle.std.specs.String.{string_eq}
use Rattle.std.proofs.lemmas.Map.Text.{hash_map_updates_text}
use Rattle.isle_base_source.specs.declared.pos.Pos.{Pos}
use Rattle.isle_ast_names.specs.Tree.{Name}
use Rattle.isle_check_environment.specs.ByText.{ByText}
use Rattle.isle_check_environment.specs.Names.{Knows, place_of, or_else}
use Rattle.isle_check_environment.specs.Types.{is_built_in, is_type, is_type_in}

pub first-or_else : {A : Type 0} (b : Bool) (p : A) (x hit : Option A) → cond b (Some p) (or_else x hit) ≡ or_else (cond b (Some p) x) hit
first-or_else true p x hit = refl
first-or_else false p x hit = refl

-- one more name at the end comes first
place_of-last : (known : List Name) (n : Name) (text : List ℕ) →
    cond (bytes_eq n.text text) (Some n.pos) (place_of known text) ≡ place_of (known ++ n ∷ []) text
place_of-last [] n text = refl
place_of-last (k ∷ ks) n text =
    first-or_else (bytes_eq n.text text) n.pos (place_of ks text) (if bytes_eq k.text text then Some k.pos else None)
    ∙ ap (λ x. or_else x (if bytes_eq k.text text then Some k.pos else None)) (place_of-last ks n text)

-- a map that has one more text knows one more name
pub Knows-put : (m n : ByText Pos) (text : List ℕ) (place : Pos) (known : List Name) →
    UpdatesBy string_eq (λ k. bytes_eq text (string_bytes k)) m n (Some place) →
    Knows m known → Knows n (known ++ record { text = text; pos = place } ∷ [])
Knows-put m n text place known updates knows asked =
    hash_map_updates_text text m n (Some place) updates asked
    ∙ ap (λ x. cond (bytes_eq text asked) (Some place) x) (knows asked)
    ∙ place_of-last known (record { text = text; pos = place }) asked

-- the types of a map are those of the names that it knows
pub is_type_in-known : (m : ByText Pos) (known : List Name) → Knows m known → is_type_in m ≡ is_type known
is_type_in-known m known knows = λ i text. is_built_in text || is_some (knows text i)
