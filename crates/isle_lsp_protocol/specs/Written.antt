-- Data that is written token by token.
use Rattle.std.specs.Prelude.{◌≡◌, ◌≤◌, List, ◌++◌, Some}
use Rattle.json.specs.Json.{Json}
use Rattle.json.specs.Token.{Token}
use Rattle.json.specs.Tree as tree
use Rattle.json.specs.Tree.{json_tokens}
use Rattle.serde_json.specs.Data.{Data, depth}
use Rattle.serde_json.specs.Read.{of_json}
use Rattle.serde_json.specs.Written.{outline}

-- the outline reads as the data
abbrev pub Reads : Data → Type 0
Reads d = of_json (outline d) ≡ Some d

-- the tokens of JSON were added that reads as the data and is no deeper
abbrev pub Adds : Data → (old new : List Token) → Type 0
Adds d old new = (j : Json) × (new ≡ old ++ json_tokens j) × (of_json j ≡ Some d) × (tree.depth j ≤ depth d)
