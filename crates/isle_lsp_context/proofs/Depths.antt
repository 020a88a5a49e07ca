-- How deep a signature help nests.
use Rattle.std.proofs.Common.{ℕ, ◌≤◌, List, [], ◌∷◌, Bool, map, arith, sym, subst}
use Rattle.isle_lsp_text.specs.declared.wholes.Part.{Part}
use Rattle.isle_lsp_context.specs.Signatures.{IsDeclarationHelp, help_data, parameter_data, signature_data}
use Rattle.serde_json.specs.Data.{Data, depth, items_depth}
use Rattle.serde_json.specs.View.{items_of}

parameters_depth : (label : List ℕ) (ps : List Part) → items_depth (items_of (map (parameter_data label) ps)) ≤ 2
parameters_depth label [] = omega arith
parameters_depth label (p ∷ ps) = omega (arith, parameters_depth label ps)

help_depth : (label : List ℕ) (ps : List Part) (argument : ℕ) → depth (help_data (signature_data label ps) argument) ≤ 6
help_depth label ps argument = omega (arith, parameters_depth label ps)

pub signature_depth : (text : List ℕ) (declaration : Part) (is_variant : Bool) (argument : ℕ) (d : Data) → IsDeclarationHelp text declaration is_variant argument d → depth d ≤ 6
signature_depth text declaration is_variant argument d h =
    let is = h.1.2 in
    subst (λ x. depth x ≤ 6) (sym h.2) (subst (λ x. depth (help_data x argument) ≤ 6) (sym is) (help_depth _ h.1.0 argument))
