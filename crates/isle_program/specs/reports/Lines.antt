-- Messages about places, in each format.
use Rattle.std.specs.Prelude.{ℕ, ◌+◌, ◌-◌, ◌^◌, min, List, ⊤}
use Rattle.isle_base_source.specs.Lines.{column, line}
use Rattle.isle_base_source.specs.Source.{Source}
use Rattle.isle_cli.specs.Messages.{message_line}
use Rattle.isle_program.specs.reports.Annotations.{annotation}
use Rattle.isle_program.specs.reports.Colours.{coloured_line}
use Rattle.isle_program.specs.reports.Messages.{MessageNode, severity_word, shown_text}
use Rattle.isle_program.specs.reports.Objects.{IsObjectLine, object_data, object_line}
use Rattle.isle_program.specs.declared.reports.format.Format.{Format}
use Rattle.isle_program.specs.declared.reports.format.Format.TheVariants.{Coloured, Human, Json, Github}

-- a place is shown at its offset, if that is not the greatest number
abbrev pub shown_offset : ℕ → ℕ
shown_offset offset = min offset (2 ^ 64 - 2)

-- line and column are counted from 1
abbrev pub shown_line : Source → (offset : ℕ) → ℕ
shown_line source offset = line source.text (shown_offset offset) + 1

abbrev pub shown_column : Source → (offset : ℕ) → ℕ
shown_column source offset = column source.text (shown_offset offset) + 1

abbrev pub told_line : Format → Source → (offset : ℕ) → MessageNode → List ℕ
told_line Human source offset m = message_line source (shown_offset offset) (severity_word m.severity) (shown_text m)
told_line Coloured source offset m = coloured_line source.name (shown_line source offset) (shown_column source offset) m
told_line Json source offset m = object_line source.name (shown_line source offset) (shown_column source offset) m
told_line Github source offset m = annotation source.name (shown_line source offset) (shown_column source offset) m

-- a line of JSON reads back as the object
abbrev pub IsInFormat : Format → Source → (offset : ℕ) → MessageNode → List ℕ → Type 0
IsInFormat Human source offset m text = ⊤
IsInFormat Coloured source offset m text = ⊤
IsInFormat Json source offset m text = IsObjectLine (object_data source.name (shown_line source offset) (shown_column source offset) m) text
IsInFormat Github source offset m text = ⊤
