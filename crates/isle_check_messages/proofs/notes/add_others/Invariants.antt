use Rattle.std.proofs.Common.{◌≡◌, ◌++◌, drop, map}
use Rattle.isle_check_messages.specs.Notes.{notes_of, other_note}
use Rattle.isle_check_overlaps.specs.Views.{others_of}
use Rattle.isle_check_messages.proofs.notes.add_others.Given as goal

abbrev pub invariant-loop-other : goal.invariant-loop-other
invariant-loop-other l =
    notes_of l.notes.items ++ map other_note (others_of (drop l.other-index l.others)) ≡ notes_of l.fn.notes.items ++ map other_note (others_of l.others)
