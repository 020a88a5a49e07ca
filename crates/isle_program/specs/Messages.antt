-- Lines that say something of a place in one of several texts, which are numbered from 0.
use Rattle.std.specs.Prelude.{ℕ, ◌-◌, ◌^◌, min, List, [], Option, None, Some, slice_get}
use Rattle.isle_base_source.specs.Source.{Source}
use Rattle.isle_base_source.specs.declared.pos.Pos.{Pos}
use Rattle.isle_cli.specs.Messages.{message_line}

-- a place is shown at its offset, if that is not the greatest number
abbrev pub shown_offset : ℕ → ℕ
shown_offset offset = min offset (2 ^ 64 - 2)

-- the line that says something of a position, if there is its text
abbrev pub line_of : Option Source → (offset : ℕ) → (kind message : List ℕ) → List ℕ
line_of None offset kind message = []
line_of (Some source) offset kind message = message_line source (shown_offset offset) kind message

abbrev pub line_at : List Source → Pos → (kind message : List ℕ) → List ℕ
line_at sources pos kind message = line_of (slice_get sources pos.file) pos.offset kind message
