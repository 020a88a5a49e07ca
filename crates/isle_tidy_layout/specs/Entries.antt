-- The document of a text as pure values: what is written, in order, and what stands before each.
use Rattle.std.specs.Prelude.{ℕ, List}
use Rattle.isle_tidy_layout.specs.declared.entries.Gap.{Gap}

-- What is written: `(`, `)`, `@`, a atom, which is the text of a symbol or an integer as it is
-- written, a line comment, which is the bytes after its `;`, or a block comment, which is the bytes
-- after its `(;`, to its `;)`.
pub data Lexeme : Type 0 where
  opening : Lexeme
  closing : Lexeme
  at_sign : Lexeme
  atom : List ℕ → Lexeme
  line_comment : List ℕ → Lexeme
  block_comment : List ℕ → Lexeme

-- an entry: what is written, and what stands before it
pub record Entry : Type 0 where
  pub gap : Gap
  pub lexeme : Lexeme
