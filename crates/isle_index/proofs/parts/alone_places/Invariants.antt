use Rattle.std.proofs.Common.{◌≡◌, ◌++◌, drop}
use Rattle.isle_index.specs.Entries.{all_of, unpacked_from}
use Rattle.isle_index.specs.Renaming.{alone_places}
use Rattle.isle_index.proofs.parts.alone_places.Given as goal

abbrev pub invariant-loop-entry : goal.invariant-loop-entry
invariant-loop-entry l =
    l.places.items ++ alone_places l.term (unpacked_from l.entries.texts.now l.entry-index (drop l.entry-index l.entries.items.now)) ≡ alone_places l.term (all_of l.entries)
