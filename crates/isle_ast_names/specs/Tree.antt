-- A name of the tree as a pure value: its bytes and its position, apart from its memory.
use Rattle.std.specs.Prelude.{ℕ, List}
use Rattle.isle_base_source.specs.declared.pos.Pos.{Pos}

pub record Name : Type 0 where
  pub text : List ℕ
  pub pos : Pos
