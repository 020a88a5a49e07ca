use Rattle.std.proofs.Common.{◌≡◌, drop}
use Rattle.isle_index.specs.Entries.{all_of, unpacked_from}
use Rattle.isle_index.specs.Renaming.{has}
use Rattle.isle_index.proofs.rename.has.Given as goal

abbrev pub invariant-loop-entry : goal.invariant-loop-entry
invariant-loop-entry l =
    has l.kind l.text (unpacked_from l.entries.texts.now l.entry-index (drop l.entry-index l.entries.items.now)) ≡ has l.kind l.text (all_of l.entries)
