-- How deep a text nests. In the grammar a tree is in another only in a list of it, or as the pattern behind an `@`. So at each token no tree is in more
-- others than there are lists open and `@` in the outermost one.
use Rattle.std.specs.Prelude.{◌≡◌, ℕ, ◌+◌, ◌-◌, List, [], ◌∷◌, Bool, false, ◌==◌, Option, None, Some, nat_le, if◌then◌else◌}
use Rattle.isle_base.specs.Lexing.{lexes}
use Rattle.isle_base.specs.Token.{Tok, lparen, rparen, symbol, integer, at_sign, Lexeme, Ending}
use Rattle.isle_program.specs.declared.nesting.Nest.{Nest}

-- how many lists may be in one another, and how many `@` in an outermost list
abbrev pub most : ℕ
most = 500

-- before a definition
abbrev pub outside : Nest
outside = record { lists = 0; at_signs = 0 }

-- a token nests too deeply
abbrev pub is_deep : Nest → Tok → Bool
is_deep n lparen = nat_le most n.lists
is_deep n rparen = false
is_deep n at_sign = nat_le most n.at_signs
is_deep n (symbol _) = false
is_deep n (integer _) = false

-- what is open after a token
abbrev pub nest_after : Nest → Tok → Nest
nest_after n lparen = record { lists = n.lists + 1; at_signs = if n.lists == 0 then 0 else n.at_signs }
nest_after n rparen = record { lists = n.lists - 1; at_signs = n.at_signs }
nest_after n at_sign = record { lists = n.lists; at_signs = n.at_signs + 1 }
nest_after n (symbol _) = n
nest_after n (integer _) = n

-- the offset of the first token that nests too deeply
abbrev pub deep_from : Nest → List Lexeme → Option ℕ
deep_from n [] = None
deep_from n (x ∷ xs) = if is_deep n x.token then Some x.offset else deep_from (nest_after n x.token) xs

-- of the tokens of a text, up to its end or to a lexical error, this is the first that nests too deeply
pub record FirstDeep (text : List ℕ) (place : Option ℕ) : Type 0 where
  pub tokens : List Lexeme
  pub ending : Ending
  pub lexed : lexes text tokens ending
  pub is : place ≡ deep_from outside tokens
