-- How deep the result nests.
use Rattle.std.proofs.Common.{◌≤◌, ℕ, List, [], ◌∷◌, Option, arith, map, subst, sym}
use Rattle.serde_json.specs.Data.{Data, depth, items_depth}
use Rattle.serde_json.specs.View.{items_of}
use Rattle.isle_lsp_text.specs.declared.positions.Range.{Range}
use Rattle.isle_lsp_colours.specs.Coloured.{AreTokens}
use Rattle.isle_lsp_colours.specs.Tokens.{count, encoded, origin, tokens_data}
use Rattle.isle_lsp_colours.specs.declared.tokens.Token.{Token}
use Rattle.isle_lsp_text.specs.declared.positions.PositionEncoding.{PositionEncoding}

numbers_flat : (ns : List ℕ) → items_depth (items_of (map count ns)) ≤ 0
numbers_flat [] = omega arith
numbers_flat (n ∷ ns) = omega (arith, numbers_flat ns)

data_depth : (enc : PositionEncoding) (text : List ℕ) (ts : List Token) → depth (tokens_data enc text ts) ≤ 2
data_depth enc text ts = omega (arith, numbers_flat (encoded enc text origin ts))

pub tokens_shallow : (enc : PositionEncoding) (text : List ℕ) (within : Option Range) (d : Data) → AreTokens enc text within d → depth d ≤ 2
tokens_shallow enc text within d h = subst (λ x. depth x ≤ 2) (sym h.is) (data_depth enc text _)
