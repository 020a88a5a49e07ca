-- Reading a written S-expression back: the tokens whose texts its atoms are.
use Rattle.std.specs.Prelude.{[], ◌≡◌, ℕ, List, ◌∷◌, ◌++◌, false, true, ◌||◌}
use Rattle.isle_base.specs.Place.{Placed, unknown}
use Rattle.isle_base.specs.Spellings.{Spelling, in_symbol}
use Rattle.isle_base.specs.Skips.{Skip, begins_with}
use Rattle.isle_base.specs.Token.{Tok, lparen, rparen, at_sign, is_int, is_symbol}
use Rattle.isle_printer_layout.specs.Sexp.{Sexp, Sexps, atom, binding, list, none, more}

-- no byte of a symbol comes next
abbrev pub Separated : List ℕ → Type 0
Separated text = begins_with in_symbol text ≡ false

-- this text is the spelling of a token, before anything that ends a symbol
abbrev pub ReadsAs : List ℕ → Tok → Type 0
ReadsAs text token = (rest : List ℕ) → Separated rest → Spelling (text ++ rest) token rest

-- a symbol or an integer
abbrev pub IsWordToken : Tok → Type 0
IsWordToken token = (is_symbol token || is_int token) ≡ true

-- The tokens of an S-expression: `all` begins with them, and `rest` follows. An atom, and the name
-- of a binding, is a symbol or an integer.
abbrev mutual
  pub TokensOf : Sexp → List Tok → List Tok → Type 0
  TokensOf (atom text) all rest =
      (token : Tok) × IsWordToken token × ReadsAs text token × (all ≡ token ∷ rest)
  TokensOf (binding name s) all rest =
      (token : Tok) × (mid : List Tok) × IsWordToken token × ReadsAs name token
      × (all ≡ token ∷ at_sign ∷ mid) × TokensOf s mid rest
  TokensOf (list items) all rest = (mid : List Tok) × (all ≡ lparen ∷ mid) × TokensOfItems items mid (rparen ∷ rest)

  pub TokensOfItems : Sexps → List Tok → List Tok → Type 0
  TokensOfItems none all rest = all ≡ rest
  TokensOfItems (more s ss) all rest = (mid : List Tok) × TokensOf s all mid × TokensOfItems ss mid rest

-- The text is skip, spelling, skip, spelling and so on, of exactly these tokens, and ends with a
-- skip.
abbrev pub Reads : List ℕ → List Tok → Type 0
Reads text [] = Skip text []
Reads text (token ∷ tokens) =
    (from : List ℕ) × (after : List ℕ) × Skip text from × Spelling from token after × Reads after tokens

-- tokens at the default position
abbrev pub unplaced : List Tok → List Placed
unplaced [] = []
unplaced (token ∷ tokens) = record { pos = unknown; token = token } ∷ unplaced tokens
