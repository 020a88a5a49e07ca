-- A token with the position of its first byte, as parser and grammar use it.
use Rattle.std.specs.Prelude.{ℕ, List, [], ◌∷◌}
use Rattle.isle_base_source.specs.declared.pos.Pos.{Pos}
use Rattle.isle_base.specs.Token.{Tok, Lexeme}

pub record Placed : Type 0 where
  pub pos : Pos
  pub token : Tok

-- the default position, which stands for an unknown position
abbrev pub unknown : Pos
unknown = record { file = 0; offset = 0 }

-- the position of an offset in a file
abbrev pub in_file : ℕ → ℕ → Pos
in_file file offset = record { file = file; offset = offset }

-- every offset at the default position
abbrev pub nowhere : ℕ → Pos
nowhere _ = unknown

-- a token of a text, at the position of its offset
abbrev pub placed_at : (ℕ → Pos) → Lexeme → Placed
placed_at place x = record { pos = place x.offset; token = x.token }

-- the tokens of a text, each at the position of its offset
abbrev pub placed : (ℕ → Pos) → List Lexeme → List Placed
placed place [] = []
placed place (x ∷ xs) = placed_at place x ∷ placed place xs
