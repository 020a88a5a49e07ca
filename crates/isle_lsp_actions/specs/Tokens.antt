-- The tokens of an ISLE text, and what is written there.
use Rattle.std.specs.Prelude.{ℕ, List, [], ◌∷◌, Bool, true, false, ◌&&◌, bytes_eq, codes}
use Rattle.isle_base.specs.Lexing.{lexes}
use Rattle.isle_base.specs.Token.{Tok, lparen, rparen, symbol, integer, at_sign, Lexeme, Ending}
use Rattle.isle_base.specs.TokenView.{token_of_ref}
use Rattle.isle_lsp_actions.specs.declared.tokens.Lexeme.{Lexeme as CodeLexeme}
use Rattle.isle_lsp_context.specs.Signatures.{written}
use Rattle.isle_lsp_text.specs.declared.wholes.Part.{Part}

-- that of the code
abbrev pub lexeme_of : CodeLexeme → Lexeme
lexeme_of x = record { offset = x.from; token = token_of_ref x.token; after = x.to }

-- These are the tokens of a text, up to its end or to a lexical error.
abbrev pub AreTokens : List ℕ → List Lexeme → Type 0
AreTokens text tokens = (ending : Ending) × lexes text tokens ending

abbrev pub part : (from to : ℕ) → Part
part from to = record { from = from; to = to }

-- a token as it is written
abbrev pub spelled : List ℕ → Lexeme → List ℕ
spelled text x = written text (part x.offset x.after)

abbrev pub is_opening : Tok → Bool
is_opening lparen = true
is_opening rparen = false
is_opening (symbol _) = false
is_opening (integer _) = false
is_opening at_sign = false

abbrev pub is_closing : Tok → Bool
is_closing lparen = false
is_closing rparen = true
is_closing (symbol _) = false
is_closing (integer _) = false
is_closing at_sign = false

abbrev pub is_at_sign : Tok → Bool
is_at_sign lparen = false
is_at_sign rparen = false
is_at_sign (symbol _) = false
is_at_sign (integer _) = false
is_at_sign at_sign = true

-- whether a token is this symbol
abbrev pub is_word : List ℕ → Tok → Bool
is_word word lparen = false
is_word word rparen = false
is_word word (symbol text) = bytes_eq text word
is_word word (integer _) = false
is_word word at_sign = false

-- whether `@` is the first of these tokens
abbrev pub begins_with_at : List Lexeme → Bool
begins_with_at [] = false
begins_with_at (x ∷ xs) = is_at_sign x.token

-- whether `@` and `_` are the first two of them
abbrev pub begins_with_at_any : List Lexeme → Bool
begins_with_at_any [] = false
begins_with_at_any (x ∷ []) = false
begins_with_at_any (x ∷ y ∷ ys) = is_at_sign x.token && is_word (codes "_") y.token
