-- Reading of tokens from left to right. A reader maps the remaining tokens to its result and the
-- tokens after it, or to nothing.
use Rattle.std.specs.Prelude.{Bool, false, ℕ, zero, suc, List, [], ◌∷◌, length, true, Option, Some, None, option_map, if◌then◌else◌}
use Rattle.std.specs.Str.{bytes_eq}
use Rattle.isle_base.specs.Token.{Tok, lparen, rparen, symbol, integer, at_sign, is_symbol}
use Rattle.isle_ast_names.specs.Words.{is_constant}
use Rattle.isle_base_source.specs.declared.pos.Pos.{Pos}
use Rattle.isle_base.specs.Place.{Placed, unknown}

-- a symbol that begins with `$`
abbrev pub is_const : Tok → Bool
is_const lparen = false
is_const rparen = false
is_const (symbol text) = is_constant text
is_const (integer _) = false
is_const at_sign = false

abbrev pub Reader : Type 0 → Type 0
Reader A = List Placed → Option (A × List Placed)

infixl 10 ◌>>=◌
abbrev pub ◌>>=◌ : {A B : Type 0} → Option A → (A → Option B) → Option B
None >>= f = None
(Some x) >>= f = f x

abbrev pub is_lparen : Tok → Bool
is_lparen lparen = true
is_lparen rparen = false
is_lparen (symbol _) = false
is_lparen (integer _) = false
is_lparen at_sign = false

abbrev pub is_rparen : Tok → Bool
is_rparen lparen = false
is_rparen rparen = true
is_rparen (symbol _) = false
is_rparen (integer _) = false
is_rparen at_sign = false

abbrev pub is_at : Tok → Bool
is_at lparen = false
is_at rparen = false
is_at (symbol _) = false
is_at (integer _) = false
is_at at_sign = true

abbrev pub symbol_text : Tok → Option (List ℕ)
symbol_text lparen = None
symbol_text rparen = None
symbol_text (symbol text) = Some text
symbol_text (integer _) = None
symbol_text at_sign = None

-- the token ahead, and those after it
abbrev pub split_first : List Placed → Option (Placed × List Placed)
split_first [] = None
split_first (x ∷ xs) = Some (x, xs)

abbrev pub token_ahead : List Placed → Option Tok
token_ahead all = option_map (λ x. x.0.token) (split_first all)

abbrev pub is_some_that : (Tok → Bool) → Option Tok → Bool
is_some_that passes None = false
is_some_that passes (Some token) = passes token

-- whether a token that passes the test is ahead
abbrev pub is_ahead : (Tok → Bool) → List Placed → Bool
is_ahead passes all = is_some_that passes (token_ahead all)

-- takes a token
abbrev pub take : Reader Tok
take all = split_first all >>= λ x. Some (x.0.token, x.1)

abbrev pub take_if : Bool → Reader Tok
take_if is_wanted all = if is_wanted then take all else None

-- takes a token that passes the test
abbrev pub expect : (Tok → Bool) → Reader Tok
expect passes all = take_if (is_ahead passes all) all

-- takes a symbol, for its text
unfoldable pub text : Reader (List ℕ)
text all = do
  x ← expect is_symbol all
  t ← symbol_text x.0
  Some (t, x.1)

abbrev pub is_symbol_of : List ℕ → Tok → Bool
is_symbol_of word lparen = false
is_symbol_of word rparen = false
is_symbol_of word (symbol text) = bytes_eq text word
is_symbol_of word (integer _) = false
is_symbol_of word at_sign = false

-- whether `)` is ahead
abbrev pub at_rparen : List Placed → Bool
at_rparen = is_ahead is_rparen

-- whether no token is ahead
abbrev pub ends : List Placed → Bool
ends [] = true
ends (_ ∷ _) = false

abbrev pub pos_of : Option (Placed × List Placed) → Pos
pos_of None = unknown
pos_of (Some x) = x.0.pos

-- the position of the token ahead
abbrev pub pos_ahead : List Placed → Pos
pos_ahead all = pos_of (split_first all)

-- takes this word if it is ahead, and says whether it was
unfoldable pub flag : List ℕ → Reader Bool
flag word all = if is_ahead (is_symbol_of word) all then (take all >>= λ x. Some (true, x.1)) else Some (false, all)

-- `(`, the reader's tokens, `)`
unfoldable pub in_parentheses : {A : Type 0} → Reader A → Reader A
in_parentheses read all = do
  inside ← expect is_lparen all
  x ← read inside.1
  rest ← expect is_rparen x.1
  Some (x.0, rest.1)

-- the reader's tokens, and `)`
unfoldable pub closed : {A : Type 0} → Reader A → Reader A
closed read all = do
  x ← read all
  rest ← expect is_rparen x.1
  Some (x.0, rest.1)

-- one after another until `stop` is true, at most this many
unfoldable pub many_within : {A : Type 0} → ℕ → (List Placed → Bool) → Reader A → Reader (List A)
many_within zero stop read all = None
many_within (suc n) stop read all =
    if stop all
    then Some ([], all)
    else (read all >>= λ x. many_within n stop read x.1 >>= λ xs. Some (x.0 ∷ xs.0, xs.1))

-- one after another until `stop` is true
unfoldable pub many : {A : Type 0} → (List Placed → Bool) → Reader A → Reader (List A)
many stop read all = many_within (suc (length all)) stop read all
