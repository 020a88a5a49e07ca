-- Readers of integers within the range of a type.
use Rattle.std.specs.Prelude.{ℕ, ℤ, Option, Some, None, if◌then◌else◌}
use Rattle.isle_base.specs.Token.{Tok, lparen, rparen, symbol, integer, at_sign, is_int}
use Rattle.isle_ast_names.specs.WritableDeciders.{is_signed}
use Rattle.isle_parser_cursor.specs.Reading.{Reader, ◌>>=◌, expect}

-- the integer of a token, if it fits the bits
abbrev pub signed_of_token : ℕ → Tok → Option ℤ
signed_of_token bits lparen = None
signed_of_token bits rparen = None
signed_of_token bits (symbol _) = None
signed_of_token bits (integer value) = if is_signed bits value then Some value else None
signed_of_token bits at_sign = None

unfoldable pub integer_within : ℕ → Reader ℤ
integer_within bits all = do
  x ← expect is_int all
  n ← signed_of_token bits x.0
  Some (n, x.1)
