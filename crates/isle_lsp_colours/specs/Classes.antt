-- The classes of tokens: what editors are told of each.
use Rattle.std.specs.Prelude.{ℕ, ◌+◌, List, [], ◌∷◌, Bool, true, false, Option, None, Some, codes, map, if◌then◌else◌}
use Rattle.serde_json.specs.Data.{Data, array, string}
use Rattle.serde_json.specs.View.{items_of}
use Rattle.isle_lsp_colours.specs.declared.classes.Class.{Class}
use Rattle.isle_lsp_colours.specs.declared.classes.TokenKind.{TokenKind}
use Rattle.isle_lsp_colours.specs.declared.classes.TokenKind.TheVariants as kinds

-- the types of tokens in the order of their numbers
abbrev pub type_names : List (List ℕ)
type_names =
    codes "keyword" ∷ codes "type" ∷ codes "enumMember" ∷ codes "function" ∷ codes "variable" ∷ codes "parameter" ∷ codes "number" ∷ []

-- the modifiers of tokens in the order of their bits
abbrev pub modifier_names : List (List ℕ)
modifier_names = codes "declaration" ∷ codes "readonly" ∷ []

abbrev pub token_types : Data
token_types = array (items_of (map string type_names))

abbrev pub token_modifiers : Data
token_modifiers = array (items_of (map string modifier_names))

-- the type of a token
abbrev pub type_name : TokenKind → List ℕ
type_name kinds.Keyword = codes "keyword"
type_name kinds.Type = codes "type"
type_name kinds.Variant = codes "enumMember"
type_name kinds.Term = codes "function"
type_name kinds.Constant = codes "variable"
type_name kinds.Variable = codes "variable"
type_name kinds.Parameter = codes "parameter"
type_name kinds.Number = codes "number"

-- the number of the type of a token
abbrev pub type_number : TokenKind → ℕ
type_number kinds.Keyword = 0
type_number kinds.Type = 1
type_number kinds.Variant = 2
type_number kinds.Term = 3
type_number kinds.Constant = 4
type_number kinds.Variable = 4
type_number kinds.Parameter = 5
type_number kinds.Number = 6

abbrev pub is_constant : TokenKind → Bool
is_constant kinds.Constant = true
is_constant _ = false

-- the set of the modifiers of a token: 1 stands for a declaration, 2 for a constant
abbrev pub modifiers : Class → ℕ
modifiers c = (if c.is_declaration then 1 else 0) + (if is_constant c.kind then 2 else 0)

-- a name that is used, or defined
abbrev pub used : TokenKind → Class
used kind = record { kind = kind; is_declaration = false }

abbrev pub declared : TokenKind → Class
declared kind = record { kind = kind; is_declaration = true }

-- the first class, if there is one, and otherwise the second
abbrev pub first : Option Class → Option Class → Option Class
first None second = second
first (Some c) second = Some c
