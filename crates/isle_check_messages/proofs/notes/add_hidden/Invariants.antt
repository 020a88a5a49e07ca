use Rattle.std.proofs.Common.{◌≡◌, ◌++◌, drop, map}
use Rattle.isle_check_messages.specs.Notes.{hidden_note, notes_of}
use Rattle.isle_check_messages.proofs.notes.add_hidden.Given as goal

abbrev pub invariant-loop-pos : goal.invariant-loop-pos
invariant-loop-pos l =
    notes_of l.notes.items ++ map hidden_note (drop l.pos-index l.hidden) ≡ notes_of l.fn.notes.items ++ map hidden_note l.hidden
