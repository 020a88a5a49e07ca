use Rattle.std.proofs.Common.{◌≡◌, ◌++◌, drop, map, string_bytes}
use Rattle.std.specs.List.{flat_map}
use Rattle.isle_check_messages.specs.Notes.{notes_of}
use Rattle.isle_cli.specs.Sources.{source_of}
use Rattle.isle_check.specs.Report.{note_line}
use Rattle.isle_check.proofs.report.add_notes.Given as goal

abbrev pub invariant-loop-note : goal.invariant-loop-note
invariant-loop-note l =
    string_bytes l.text ++ flat_map (note_line l.format (map source_of l.sources)) (notes_of (drop l.note-index l.notes))
    ≡ string_bytes l.fn.text ++ flat_map (note_line l.format (map source_of l.sources)) (notes_of l.notes)
