-- Where the definitions of a text begin: at each `(` that is in no list.
use Rattle.std.specs.Prelude.{◌≡◌, ◌≤◌, ℕ, ◌+◌, ◌-◌, List, [], ◌∷◌, ◌++◌, Bool, false, ◌==◌, if◌then◌else◌}
use Rattle.isle_base.specs.Lexing.{lexes}
use Rattle.isle_base.specs.Token.{Tok, lparen, rparen, symbol, integer, at_sign, Lexeme, Ending}
use Rattle.isle_program.specs.declared.openings.Opening.{Opening}

-- a token begins a definition, behind so many open lists
abbrev pub begins : (depth : ℕ) → Tok → Bool
begins depth lparen = depth == 0
begins depth rparen = false
begins depth at_sign = false
begins depth (symbol _) = false
begins depth (integer _) = false

-- how many lists are open after a token
abbrev pub depth_after : (depth : ℕ) → Tok → ℕ
depth_after depth lparen = depth + 1
depth_after depth rparen = depth - 1
depth_after depth at_sign = depth
depth_after depth (symbol _) = depth
depth_after depth (integer _) = depth

-- those among these tokens, behind a token that ends here, and so many open lists
abbrev pub openings : (before depth : ℕ) → List Lexeme → List Opening
openings before depth [] = []
openings before depth (x ∷ xs) =
    (if begins depth x.token then (record { start = x.offset; before = before }) ∷ [] else []) ++ openings x.after (depth_after depth x.token) xs

-- none begins before the one before it, or ends the token before it past the end of the text
abbrev pub Ascend : (size low : ℕ) → List Opening → Type 0
Ascend size low [] = Unit {0}
Ascend size low (o ∷ os) = (low ≤ o.start) × (o.before ≤ size) × Ascend size o.start os

-- These are the beginnings of the definitions of a text, up to its end or to a lexical error.
pub record AreOpenings (text : List ℕ) (all : List Opening) : Type 0 where
  pub tokens : List Lexeme
  pub ending : Ending
  pub lexed : lexes text tokens ending
  pub is : all ≡ openings 0 0 tokens
