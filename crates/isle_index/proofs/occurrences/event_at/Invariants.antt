use Rattle.std.proofs.Common.{◌≡◌, drop}
use Rattle.isle_index.specs.Entries.{all_of, unpacked_from}
use Rattle.isle_index.specs.Occurrences.{seen_at}
use Rattle.isle_index.proofs.occurrences.event_at.Given as goal

abbrev pub invariant-loop-number : goal.invariant-loop-number
invariant-loop-number l =
    seen_at l.place (unpacked_from l.entries.texts.now l.number (drop l.number l.entries.items.now)) ≡ seen_at l.place (all_of l.entries)
