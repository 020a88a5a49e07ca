-- The words of the grammar: how tokens spell the parts of its productions. Each relation goes from
-- the remaining tokens, `all`, to the tokens after the spelling, `rest`: `all` begins with a
-- spelling, and `rest` follows.
use Rattle.std.specs.Prelude.{◌≡◌, ℕ, List, [], ◌∷◌, Bool, true, false, Option, None, Some, nat_eq, ◌||◌, codes, not}
use Rattle.std.specs.Str.{bytes_eq}
use Rattle.isle_base.specs.Bytes.{dollar}
use Rattle.isle_base_source.specs.declared.pos.Pos.{Pos}
use Rattle.isle_base.specs.Token.{Tok, lparen, rparen, symbol}
use Rattle.isle_base.specs.Place.{Placed}
use Rattle.isle_ast_names.specs.Identifier.{is_identifier}
use Rattle.isle_ast_names.specs.Tree.{Name}
use Rattle.isle_base.specs.Skips.{begins_with}

-- this token, at some position
abbrev pub SpellsToken : Tok → List Placed → List Placed → Type 0
SpellsToken token all rest = (pos : Pos) × (all ≡ record { pos = pos; token = token } ∷ rest)

-- this word, as a symbol
abbrev pub SpellsWord : List ℕ → List Placed → List Placed → Type 0
SpellsWord word = SpellsToken (symbol word)

-- the first token is at this position
abbrev pub BeginsAt : Pos → List Placed → Type 0
BeginsAt pos all = (token : Tok) × (behind : List Placed) × (all ≡ record { pos = pos; token = token } ∷ behind)

-- nodes of one kind, one after another
abbrev pub SpellsAll : {A : Type 0} → (A → List Placed → List Placed → Type 0) → List A → List Placed → List Placed → Type 0
SpellsAll Spells [] all rest = all ≡ rest
SpellsAll Spells (x ∷ xs) all rest = (mid : List Placed) × Spells x all mid × SpellsAll Spells xs mid rest

-- `(`, the spelling of `Spells`, `)`
abbrev pub InParentheses : (List Placed → List Placed → Type 0) → List Placed → List Placed → Type 0
InParentheses Spells all rest =
    (inner : List Placed) × (close : List Placed) × SpellsToken lparen all inner × Spells inner close × SpellsToken rparen close rest

-- an identifier, at its own position
abbrev pub SpellsName : Name → List Placed → List Placed → Type 0
SpellsName name all rest =
    (is_identifier name.text ≡ true) × (all ≡ record { pos = name.pos; token = symbol name.text } ∷ rest)

-- the word if the flag is set, else nothing
abbrev pub SpellsFlag : List ℕ → Bool → List Placed → List Placed → Type 0
SpellsFlag word true all rest = SpellsWord word all rest
SpellsFlag word false all rest = all ≡ rest

-- a keyword, and then the spelling of `Spells`
abbrev pub BehindWord : List ℕ → (List Placed → List Placed → Type 0) → List Placed → List Placed → Type 0
BehindWord word Spells all rest = (inner : List Placed) × SpellsWord word all inner × Spells inner rest

-- one node, or none
abbrev pub SpellsOptional : {A : Type 0} → (A → List Placed → List Placed → Type 0) → Option A → List Placed → List Placed → Type 0
SpellsOptional Spells None all rest = all ≡ rest
SpellsOptional Spells (Some x) all rest = Spells x all rest

-- there is an element
abbrev pub IsNonEmpty : {A : Type 0} → List A → Type 0
IsNonEmpty [] = ⊥
IsNonEmpty (_ ∷ _) = Unit {0}

-- a keyword and the rest of its form, in parentheses
abbrev pub InForm : List ℕ → (List Placed → List Placed → Type 0) → List Placed → List Placed → Type 0
InForm word Spells = InParentheses (BehindWord word Spells)

abbrev pub is_dollar : ℕ → Bool
is_dollar byte = nat_eq byte dollar

-- a text that is read as a constant: it begins with `$`
abbrev pub is_constant : List ℕ → Bool
is_constant text = begins_with is_dollar text

-- `true` or `false`
abbrev pub bool_word : Bool → List ℕ
bool_word true = codes "true"
bool_word false = codes "false"

abbrev pub is_bool_word : List ℕ → Bool
is_bool_word text = bytes_eq text (codes "true") || bytes_eq text (codes "false")

-- a text that is this word needs the flag to be set
abbrev pub demands : List ℕ → List ℕ → Bool → Bool
demands text word flag = not (bytes_eq text word) || flag

-- a constant: `$` and its name, which together are an identifier. The name may be empty.
abbrev pub SpellsConstant : Name → List Placed → List Placed → Type 0
SpellsConstant name all rest =
    (is_identifier (dollar ∷ name.text) ≡ true)
    × (all ≡ record { pos = name.pos; token = symbol (dollar ∷ name.text) } ∷ rest)
