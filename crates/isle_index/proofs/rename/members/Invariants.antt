use Rattle.std.proofs.Common.{◌≡◌, ◌++◌, drop, map}
use Rattle.isle_index.specs.Entries.{all_of, unpacked_from}
use Rattle.isle_index.specs.Renaming.{members}
use Rattle.isle_index.proofs.rename.members.Given as goal

abbrev pub invariant-loop-entry : goal.invariant-loop-entry
invariant-loop-entry l =
    map (λ m. m.now) l.found.items ++ members l.owner (unpacked_from l.entries.texts.now l.entry-index (drop l.entry-index l.entries.items.now)) ≡ members l.owner (all_of l.entries)
