-- A place in a file as text: only its line.
use Rattle.std.specs.Prelude.{ℕ, List, ◌++◌, codes}
use Rattle.std.specs.Fmt.{decimal}
use Rattle.isle_base_source.specs.Lines.{line}
use Rattle.isle_base_source.specs.Source.{Source}

-- the file's name and the line, counted from 0
abbrev pub pretty_line : Source → ℕ → List ℕ
pretty_line source offset = source.name ++ codes " line " ++ decimal (line source.text offset)
