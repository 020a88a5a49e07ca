-- The texts of a program.
use Rattle.std.specs.Prelude.{ℕ, List}
use Rattle.isle_lsp_calls.specs.declared.Source.{Source as CodeSource}
use Rattle.isle_lsp_text.specs.declared.positions.PositionEncoding.{PositionEncoding}

-- a text: how positions in it are counted, how the client spells its URI, and its bytes
pub record Source : Type 0 where
  pub encoding : PositionEncoding
  pub uri : List ℕ
  pub text : List ℕ

abbrev pub source : PositionEncoding → (uri text : List ℕ) → Source
source encoding uri text = record { encoding = encoding; uri = uri; text = text }

abbrev pub source_of : CodeSource → Source
source_of s = source s.encoding s.uri.now s.text.now
