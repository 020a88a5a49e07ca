-- The names that an ISLE text implements, by its tokens.
use Rattle.std.specs.Prelude.{◌≡◌, ℕ, List, [], ◌∷◌, ◌++◌, Bool, ◌&&◌, ◌||◌, ◌==◌, true, false, bytes_eq, codes, nat_lt, if◌then◌else◌}
use Rattle.isle_base.specs.Lexing.{lexes}
use Rattle.isle_base.specs.Token.{Tok, lparen, symbol, integer, is_symbol, Lexeme, Ending}
use Rattle.isle_lsp_text.specs.Definitions.{begins_definition}
use Rattle.isle_lsp_text.specs.Lists.{depth_after}
use Rattle.isle_lsp_text.specs.declared.implementations.DefinitionPart.{DefinitionPart}
use Rattle.isle_lsp_text.specs.declared.implementations.DefinitionPart.TheVariants.{Keyword, Name, Priority, Front, Root, External, Names, Rest}

-- in how many lists a token at this offset stands, if so many are open: a definition begins in none
unfoldable pub depth_at : List ℕ → (offset depth : ℕ) → ℕ
depth_at text offset depth = if begins_definition text offset then 0 else depth

-- the part of a definition after its keyword: a rule and an extractor have a root, and an `extern` tells first what it is
abbrev pub part_named : List ℕ → DefinitionPart
part_named word =
    if bytes_eq word (codes "rule") then Name
    else (if bytes_eq word (codes "extractor") then Front
    else (if bytes_eq word (codes "extern") then External else Rest))

-- the part of an `extern` after its second word
abbrev pub external_named : List ℕ → DefinitionPart
external_named word = if bytes_eq word (codes "constructor") || bytes_eq word (codes "extractor") then Names else Rest

-- The part of a definition after a token of it. Before the root of a rule stand a name and a priority, or one of them, or none. An `extern` has
-- no list, so where one begins its own end is missing.
abbrev pub next : DefinitionPart → Tok → DefinitionPart
next Keyword (symbol word) = part_named word
next Keyword _ = Rest
next Name lparen = Root
next Name (symbol _) = Priority
next Name (integer _) = Front
next Name _ = Rest
next Priority lparen = Root
next Priority (integer _) = Front
next Priority _ = Rest
next Front lparen = Root
next Front _ = Rest
next Root _ = Rest
next External (symbol word) = external_named word
next External _ = Rest
next Names lparen = Rest
next Names _ = Names
next Rest _ = Rest

-- the part that the token after this one stands in: a `(` in no list begins a definition
abbrev pub part_after : (depth : ℕ) → DefinitionPart → Tok → DefinitionPart
part_after depth part token = if depth == 0 then Keyword else next part token

abbrev pub is_naming : DefinitionPart → Bool
is_naming Keyword = false
is_naming Name = false
is_naming Priority = false
is_naming Front = false
is_naming Root = true
is_naming External = false
is_naming Names = true
is_naming Rest = false

-- a token is a name that its definition implements
abbrev pub is_implemented : (depth : ℕ) → DefinitionPart → Tok → Bool
is_implemented depth part token = nat_lt 0 depth && (is_naming part && is_symbol token)

abbrev pub implemented_at : (depth : ℕ) → DefinitionPart → Lexeme → List ℕ
implemented_at depth part x = if is_implemented depth part x.token then x.offset ∷ [] else []

-- the offsets of the names that tokens of a text implement, where so many lists are open before them, and the first stands in this part of a
-- definition
abbrev pub implemented_from : List ℕ → (depth : ℕ) → DefinitionPart → List Lexeme → List ℕ
implemented_from text depth part [] = []
implemented_from text depth part (x ∷ xs) =
    let here : ℕ = depth_at text x.offset depth in
    implemented_at here part x ++ implemented_from text (depth_after here x.token) (part_after here part x.token) xs

-- These are the offsets of all names that a text implements: of its tokens up to its end, or to a lexical error.
pub record AreImplemented (text : List ℕ) (offsets : List ℕ) : Type 0 where
  pub tokens : List Lexeme
  pub ending : Ending
  pub lexed : lexes text tokens ending
  pub are : offsets ≡ implemented_from text 0 Keyword tokens
