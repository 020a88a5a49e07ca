-- Reports of code as pure values.
use Rattle.std.specs.Prelude.{List, map, string_bytes}
use Rattle.isle_check_messages.specs.Words.{words_of}
use Rattle.isle_check.specs.Report.{LineNode, ToldNode}
use Rattle.isle_check.specs.declared.report.Line.{Line}
use Rattle.isle_check.specs.declared.report.Told.{Told}

abbrev pub line_at : Line → LineNode
line_at l = record { is_error = l.is_error; text = string_bytes l.text }

abbrev pub lines_at : List Line → List LineNode
lines_at ls = map line_at ls

abbrev pub told_node : Told → ToldNode
told_node t = record { pos = t.pos; is_error = t.is_error; words = words_of t.words; notes = string_bytes t.notes }
