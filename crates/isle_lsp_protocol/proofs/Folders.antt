-- The folders of a message.
use Rattle.std.proofs.Common.{◌≡◌, ℕ, suc, List, [], ◌∷◌, length, true, false, ◌==◌, Some, refl, arith}
use Rattle.std.proofs.lemmas.Bool.Decides.{nat_tests}
use Rattle.serde_json.specs.Data.{Data}
use Rattle.serde_json.specs.View.{items_view}
use Rattle.serde_json.specs.declared.value.Value.{Value}
use Rattle.isle_lsp_protocol.specs.Parameters.{folders_with, root_of, uris_in}

not_empty : (n : ℕ) → true ≡ (suc n == 0) → ⊥
not_empty n h = grind (arith, nat_tests)

empty : false ≡ (0 == 0) → ⊥
empty h = cc

pub without_folders : (vs : List Value) (d : Data) → true ≡ (length vs == 0) → folders_with (Some (items_view vs)) d ≡ root_of d
without_folders [] d h = refl
without_folders (v ∷ vs) d h = absurd (not_empty (length vs) h)

pub with_folders : (vs : List Value) (d : Data) → false ≡ (length vs == 0) → folders_with (Some (items_view vs)) d ≡ uris_in (items_view vs)
with_folders [] d h = absurd (empty h)
with_folders (v ∷ vs) d h = refl
