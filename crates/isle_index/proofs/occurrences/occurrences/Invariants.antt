use Rattle.std.proofs.Common.{◌≡◌, ◌++◌, drop}
use Rattle.isle_index.specs.Entries.{all_of, unpacked_from}
use Rattle.isle_resolve.specs.Names.{named_of}
use Rattle.isle_index.specs.Occurrences.{occurrences}
use Rattle.isle_index.proofs.occurrences.occurrences.Given as goal

abbrev pub invariant-loop-number : goal.invariant-loop-number
invariant-loop-number l =
    l.found.items ++ occurrences (named_of l.name) (unpacked_from l.entries.texts.now l.number (drop l.number l.entries.items.now)) ≡ occurrences (named_of l.name) (all_of l.entries)
