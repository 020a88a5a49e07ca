-- Tokens apart from their memory, tokens at their places in a text, and the rest of a lexer's
-- input.
use Rattle.std.specs.Prelude.{ℕ, ℤ, List, Bool, true, false}

-- a token; a symbol is its bytes
pub data Tok : Type 0 where
  lparen : Tok
  rparen : Tok
  symbol : List ℕ → Tok
  integer : ℤ → Tok
  at_sign : Tok

abbrev pub is_int : Tok → Bool
is_int lparen = false
is_int rparen = false
is_int (symbol _) = false
is_int (integer _) = true
is_int at_sign = false

abbrev pub is_symbol : Tok → Bool
is_symbol lparen = false
is_symbol rparen = false
is_symbol (symbol _) = true
is_symbol (integer _) = false
is_symbol at_sign = false

-- a token of a text: the offset of its first byte, and the offset after its last
pub record Lexeme : Type 0 where
  pub offset : ℕ
  pub token : Tok
  pub after : ℕ

-- the ending of a text's tokens: the end of the text, or a fault, which begins at this offset
pub data Ending : Type 0 where
  end : Ending
  fault : ℕ → Ending

-- the rest of a lexer's input: the number of its file, the tokens to come, how they end, and the
-- length of the text
pub record Feed : Type 0 where
  pub file : ℕ
  pub coming : List Lexeme
  pub ending : Ending
  pub size : ℕ
