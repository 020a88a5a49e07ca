-- The lists of an ISLE text, each from a `(` to its `)`, by the tokens of the text.
use Rattle.std.specs.Prelude.{◌≡◌, ℕ, ◌+◌, ◌-◌, List, [], ◌∷◌, ◌++◌, Bool, ◌&&◌, ◌==◌, Option, None, Some, length, nat_le, nat_lt, if◌then◌else◌}
use Rattle.isle_base.specs.Lexing.{lexes}
use Rattle.isle_base.specs.Token.{Tok, lparen, rparen, symbol, integer, at_sign, Lexeme, Ending}
use Rattle.isle_lsp_text.specs.declared.lists.ListSpan.{ListSpan}

-- where the lists begin that are open after a token at an offset, the innermost first
abbrev pub opened : Tok → ℕ → List ℕ → List ℕ
opened lparen offset begun = offset ∷ begun
opened rparen offset [] = []
opened rparen offset (from ∷ begun) = begun
opened (symbol _) offset begun = begun
opened (integer _) offset begun = begun
opened at_sign offset begun = begun

-- the list that ends with a token at an offset
abbrev pub closed : Tok → ℕ → List ℕ → List ListSpan
closed lparen offset begun = []
closed rparen offset [] = []
closed rparen offset (from ∷ begun) = record { from = from; to = offset + 1; depth = length begun } ∷ []
closed (symbol _) offset begun = []
closed (integer _) offset begun = []
closed at_sign offset begun = []

-- the lists of tokens, in the order in which they end, where these are open before them
abbrev pub lists_of : List ℕ → List Lexeme → List ListSpan
lists_of begun [] = []
lists_of begun (x ∷ xs) = closed x.token x.offset begun ++ lists_of (opened x.token x.offset begun) xs

-- These are all lists of a text: of its tokens up to its end, or to a lexical error.
pub record AreLists (text : List ℕ) (lists : List ListSpan) : Type 0 where
  pub tokens : List Lexeme
  pub ending : Ending
  pub lexed : lexes text tokens ending
  pub are : lists ≡ lists_of [] tokens

-- whether an offset is inside a list that is nested in at least `depth` lists
abbrev pub holds : (depth offset : ℕ) → ListSpan → Bool
holds depth offset l = nat_lt l.from offset && nat_lt offset l.to && nat_le depth l.depth

-- the innermost list around an offset that stands in so many lists at least: of those that hold it the first to end
abbrev pub list_around : (depth offset : ℕ) → List ListSpan → Option ListSpan
list_around depth offset [] = None
list_around depth offset (l ∷ ls) = if holds depth offset l then Some l else list_around depth offset ls

-- the outermost list around an offset
abbrev pub outer_list : (offset : ℕ) → List ListSpan → Option ListSpan
outer_list offset [] = None
outer_list offset (l ∷ ls) = if l.depth == 0 && holds 0 offset l then Some l else outer_list offset ls

-- how many lists are open after a token, where so many are open before it
abbrev pub depth_after : (depth : ℕ) → Tok → ℕ
depth_after depth lparen = depth + 1
depth_after depth rparen = depth - 1
depth_after depth (symbol _) = depth
depth_after depth (integer _) = depth
depth_after depth at_sign = depth
