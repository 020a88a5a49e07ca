-- The positions of a message, read one after another.
use Rattle.std.proofs.Common.{List, ◌++◌, Option, None, Some}
use Rattle.isle_lsp_text.specs.declared.positions.Position.{Position}

-- these positions and then the others, if there are others to read
abbrev pub behind : List Position → Option (List Position) → Option (List Position)
behind read None = None
behind read (Some rest) = Some (read ++ rest)
