-- Places in the texts of a program.
use Rattle.std.specs.Prelude.{ℕ, ◌+◌, List, [], ◌∷◌, Option, None, Some, bytes_eq, if◌then◌else◌}
use Rattle.isle_lsp_features.specs.Programs.{Question, Text}
use Rattle.isle_base_source.specs.declared.pos.Pos.{Pos}
use Rattle.isle_lsp_protocol.specs.Parameters.{position_of}
use Rattle.isle_lsp_features.specs.declared.places.File.{File as CodeFile}
use Rattle.isle_lsp_features.specs.declared.places.Place.{Place as CodePlace}
use Rattle.isle_lsp_text.specs.Positions.{offset_at}
use Rattle.isle_lsp_text.specs.declared.positions.Position.{Position}
use Rattle.isle_lsp_text.specs.declared.positions.PositionEncoding.{PositionEncoding}

-- a text of a program, by its number, and how positions in it are counted
pub record File : Type 0 where
  pub encoding : PositionEncoding
  pub number : ℕ
  pub text : List ℕ

abbrev pub file : PositionEncoding → ℕ → List ℕ → File
file encoding number text = record { encoding = encoding; number = number; text = text }

abbrev pub file_of : CodeFile → File
file_of f = file f.encoding f.number f.text.now

-- a place in a text of a program, and how positions in that are counted
pub record Place : Type 0 where
  pub encoding : PositionEncoding
  pub pos : Pos
  pub text : List ℕ

abbrev pub place_of : CodePlace → Place
place_of p = record { encoding = p.encoding; pos = p.pos; text = p.text.now }

-- the first text of this file, if the texts are numbered from this number on
abbrev pub file_from : ℕ → List ℕ → List Text → Option File
file_from number name [] = None
file_from number name (s ∷ ss) = if bytes_eq s.file name then Some (file s.encoding number s.text) else file_from (number + 1) name ss

-- the text that a request is about
abbrev pub file_in : Question → List Text → Option File
file_in q program = file_from 0 q.file program

abbrev pub position_in : Option File → Option Position → Option Place
position_in None position = None
position_in (Some f) None = None
position_in (Some f) (Some p) =
    Some record { encoding = f.encoding; pos = record { file = f.number; offset = offset_at f.encoding p f.text }; text = f.text }

-- the place that a request is about
abbrev pub place_in : Question → List Text → Option Place
place_in q program = position_in (file_in q program) (position_of q.message)
