-- The names in an ISLE text: its symbols, each with its offset.
use Rattle.std.specs.Prelude.{◌≡◌, ℕ, List, [], ◌∷◌, ◌++◌, Bool, ◌&&◌, ◌==◌, Option, None, Some, count_by, nat_lt, if◌then◌else◌}
use Rattle.std.specs.Str.{bytes_eq}
use Rattle.isle_base.specs.Lexing.{lexes}
use Rattle.isle_base.specs.Token.{Tok, lparen, rparen, symbol, integer, at_sign, Lexeme, Ending}
use Rattle.isle_lsp_actions.specs.declared.names.Name.{Name as CodeName}
use Rattle.isle_lsp_text.specs.declared.lists.ListSpan.{ListSpan}

-- a symbol, and the offset of its first byte
pub record Name : Type 0 where
  pub offset : ℕ
  pub text : List ℕ

-- that of the code
abbrev pub name_of : CodeName → Name
name_of n = record { offset = n.offset; text = n.text.now }

-- the name that a token at an offset is, if it is one
abbrev pub named : Tok → (offset : ℕ) → List Name
named (symbol text) offset = record { offset = offset; text = text } ∷ []
named lparen offset = []
named rparen offset = []
named (integer _) offset = []
named at_sign offset = []

abbrev pub names_of : List Lexeme → List Name
names_of [] = []
names_of (x ∷ xs) = named x.token x.offset ++ names_of xs

-- These are the names in a text: among its tokens up to its end, or to a lexical error.
pub record AreNames (text : List ℕ) (names : List Name) : Type 0 where
  pub tokens : List Lexeme
  pub ending : Ending
  pub lexed : lexes text tokens ending
  pub are : names ≡ names_of tokens

-- the name that begins at an offset
abbrev pub name_at : (offset : ℕ) → List Name → Option (List ℕ)
name_at offset [] = None
name_at offset (n ∷ ns) = if n.offset == offset then Some n.text else name_at offset ns

-- whether a name is this text, inside a list
abbrev pub is_in : ListSpan → List ℕ → Name → Bool
is_in l text n = nat_lt l.from n.offset && nat_lt n.offset l.to && bytes_eq n.text text

-- how often a name stands in a list
abbrev pub count_in : ListSpan → List ℕ → List Name → ℕ
count_in l text names = count_by (is_in l text) names
