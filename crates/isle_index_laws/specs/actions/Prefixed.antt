-- A text with a `_` more before a name, and its tokens.
use Rattle.std.specs.Prelude.{ℕ, ◌+◌, List, ◌∷◌, ◌++◌, ◌==◌, drop, map, nat_lt, take, if◌then◌else◌}
use Rattle.isle_base.specs.Bytes.{underscore}
use Rattle.isle_base.specs.Lexing.{lexes}
use Rattle.isle_base.specs.Token.{Lexeme, Tok, at_sign, end, integer, lparen, rparen, symbol}
use Rattle.isle_lsp_actions.specs.Actions.{Action}

-- the text after an action
abbrev pub acted : Action → List ℕ → List ℕ
acted a text = take a.from text ++ (a.new_text ++ drop a.to text)

-- an offset after one byte more at this one
abbrev pub moved : (at offset : ℕ) → ℕ
moved at offset = if nat_lt at offset then offset + 1 else offset

abbrev pub with_underscore : Tok → Tok
with_underscore (symbol name) = symbol (underscore ∷ name)
with_underscore lparen = lparen
with_underscore rparen = rparen
with_underscore (integer value) = integer value
with_underscore at_sign = at_sign

-- a token after one byte more at an offset, where it has a `_` more if it begins there
abbrev pub prefixed : (at : ℕ) → Lexeme → Lexeme
prefixed at x = record {
  offset = moved at x.offset;
  token = if x.offset == at then with_underscore x.token else x.token;
  after = moved at x.after;
}

-- The text after an action has these tokens, with a `_` more in the one where the action begins.
abbrev pub IsPrefixed : List ℕ → List Lexeme → Action → Type 0
IsPrefixed text tokens a = lexes (acted a text) (map (prefixed a.from) tokens) end
