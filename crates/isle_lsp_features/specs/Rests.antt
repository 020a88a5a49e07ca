-- What is left to read of a text behind a definition that is broken.
use Rattle.std.specs.Prelude.{◌≡◌, ℕ, ◌+◌, ◌-◌, ◌==◌, ◌&&◌, List, [], ◌∷◌, ◌++◌, Bool, false, Option, None, Some, codes, drop, nat_le, option_map, unwrap_or, if◌then◌else◌}
use Rattle.std.specs.List.{repeat}
use Rattle.isle_base.specs.Bytes.{left_parenthesis, line_feed}
use Rattle.isle_base.specs.Lexing.{lexes}
use Rattle.isle_base.specs.Token.{Tok, lparen, rparen, symbol, integer, at_sign, Ending, Lexeme}
use Rattle.isle_lsp_features.specs.declared.rests.Lists.{Lists}

-- so many lists have yet to end, and none is open
abbrev pub all_left : (count : ℕ) → Lists
all_left count = record { left = count; depth = 0 }

-- which lists have yet to end after a token
abbrev pub lists_after : Lists → Tok → Lists
lists_after n lparen = record { left = n.left; depth = n.depth + 1 }
lists_after n rparen = if nat_le n.depth 1 then record { left = n.left - 1; depth = 0 } else record { left = n.left; depth = n.depth - 1 }
lists_after n at_sign = n
lists_after n (symbol _) = n
lists_after n (integer _) = n

-- the offset of the first token after which none of them has yet to end
abbrev pub behind : Lists → List Lexeme → Option ℕ
behind n [] = None
behind n (x ∷ xs) = if n.left == 0 then Some x.offset else behind (lists_after n x.token) xs

-- of the tokens of a text, up to its end or to a lexical error, this is the first behind so many lists
pub record IsBehind (text : List ℕ) (count : ℕ) (place : Option ℕ) : Type 0 where
  pub tokens : List Lexeme
  pub ending : Ending
  pub lexed : lexes text tokens ending
  pub is : place ≡ behind (all_left count) tokens

abbrev pub begins_list : List ℕ → Bool
begins_list [] = false
begins_list (b ∷ bs) = b == left_parenthesis

-- the offset of the first `(` right behind a line feed, in bytes from an offset on
abbrev pub line_from : (at : ℕ) → List ℕ → Option ℕ
line_from at [] = None
line_from at (b ∷ bs) = if b == line_feed && begins_list bs then Some (at + 1) else line_from (at + 1) bs

-- a text with blanks in place of what is before an offset
abbrev pub blanked : (start : ℕ) → List ℕ → List ℕ
blanked start text = repeat start (codes " ") ++ drop start text

-- a text from the first line on, behind an offset, that begins with `(`
abbrev pub from_line : List ℕ → (offset : ℕ) → Option (List ℕ)
from_line text offset = option_map (λ start. blanked start text) (line_from offset (drop offset text))

-- this is left of a text behind the beginning of the definition that follows so many others
abbrev pub IsRest : List ℕ → (count : ℕ) → Option (List ℕ) → Type 0
IsRest text count rest = (place : Option ℕ) × IsBehind text count place × (rest ≡ from_line text (unwrap_or place 0))
