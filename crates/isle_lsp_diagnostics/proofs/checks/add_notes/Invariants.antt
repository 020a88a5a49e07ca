use Rattle.std.proofs.Common.{◌≡◌, ◌++◌, map}
use Rattle.std.specs.Vec.Iter.{into_iter_items}
use Rattle.isle_check_messages.specs.Notes.{notes_of}
use Rattle.isle_lsp_diagnostics.specs.Checked.{told_note, told_of}
use Rattle.isle_lsp_diagnostics.proofs.checks.add_notes.Given as goal

abbrev pub invariant-loop-note : goal.invariant-loop-note
invariant-loop-note l =
    map told_of l.all.items ++ map (told_note l.is_error l.kind) (notes_of (into_iter_items l.note-iterator))
    ≡ map told_of l.fn.all.items ++ map (told_note l.is_error l.kind) (notes_of l.fn.notes.items)
