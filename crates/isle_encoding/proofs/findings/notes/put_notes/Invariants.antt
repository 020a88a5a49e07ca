use Rattle.std.proofs.Common.{◌≡◌, ◌++◌, drop, flat_map, string_bytes}
use Rattle.isle_check_messages.specs.Notes.{notes_of}
use Rattle.isle_encoding.specs.Numbers.{list}
use Rattle.isle_encoding.specs.findings.Encoded.{note}
use Rattle.isle_encoding.proofs.findings.notes.put_notes.Given as goal

abbrev pub invariant-loop-one : goal.invariant-loop-one
invariant-loop-one l =
    string_bytes l.out ++ flat_map note (notes_of (drop l.one-index l.notes)) ≡ string_bytes l.fn.out ++ list note (notes_of l.notes)
