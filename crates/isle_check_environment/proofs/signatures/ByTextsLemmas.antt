-- A map of maps that has one more value.
use Rattle.std.proofs.Common.{◌≡◌, ℕ, List, Bool, true, false, cond, ◌&&◌, Option, None, Some, string_bytes, refl, ap, ◌∙◌}
use Rattle.std.specs.HashMap.{IsEmpty, UpdatesBy, get_by_text}
use Rattle.std.specs.Map.{lookup}
use Rattle.std.specs.Option.{unwrap_or}
use Rattle.std.specs.Str.{bytes_eq}
use Rattle.std.specs.String.{string_eq}
use Rattle.std.proofs.lemmas.Map.Text.{hash_map_updates_text}
use Rattle.std.proofs.lemmas.Slice.Eq.{bytes_eq-Decides}
use Rattle.isle_check_environment.specs.ByText.{ByText}
use Rattle.isle_check_environment.specs.signatures.ByTexts.{get_by_texts, get_if_some}

-- a map that is there, or else an empty one
pub get-or_empty : {V : Type 0} (o : Option (ByText V)) (none : ByText V) → IsEmpty none → (text : List ℕ) →
    get_by_text (unwrap_or o none) text ≡ get_if_some o text
get-or_empty None none empty text = ap (λ es. lookup (λ k. bytes_eq text (string_bytes k)) es) empty
get-or_empty (Some values) none empty text = refl

put-at_first : {V : Type 0} (b : Bool) (more : ByText V) (old : Option (ByText V)) (second two : List ℕ) (value : V) →
    (b ≡ true → get_by_text more two ≡ cond (bytes_eq second two) (Some value) (get_if_some old two)) →
    get_if_some (cond b (Some more) (cond b None old)) two ≡ cond (b && bytes_eq second two) (Some value) (get_if_some old two)
put-at_first true more old second two value h = h refl
put-at_first false more old second two value h = refl

module _ {V : Type 0} (old less new : ByText (ByText V)) (values more : ByText V) (taken first second : List ℕ) (value : V) where
  -- the map at the first text is taken out, gets the value, and is put back
  pub get_by_texts-put : taken ≡ first → ((text : List ℕ) → get_by_text values text ≡ get_by_texts old taken text) →
      UpdatesBy string_eq (λ k. bytes_eq taken (string_bytes k)) old less None →
      UpdatesBy string_eq (λ k. bytes_eq second (string_bytes k)) values more (Some value) →
      UpdatesBy string_eq (λ k. bytes_eq first (string_bytes k)) less new (Some more) → (one two : List ℕ) →
      get_by_texts new one two ≡ cond (bytes_eq first one && bytes_eq second two) (Some value) (get_by_texts old one two)
  get_by_texts-put same held removed grown inserted one two =
      ap (λ x. get_if_some x two)
      (hash_map_updates_text first less new (Some more) inserted one
      ∙ ap (λ x. cond (bytes_eq first one) (Some more) x)
      (hash_map_updates_text taken old less None removed one ∙ ap (λ t. cond (bytes_eq t one) None (get_by_text old one)) same))
      ∙ put-at_first (bytes_eq first one) more (get_by_text old one) second two value
      (λ is. hash_map_updates_text second values more (Some value) grown two
      ∙ ap (λ x. cond (bytes_eq second two) (Some value) x) (held two)
      ∙ ap (λ t. cond (bytes_eq second two) (Some value) (get_by_texts old t two)) (same ∙ (bytes_eq-Decides first one).0 is))
