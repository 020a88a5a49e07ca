use Rattle.std.proofs.Common.{◌≡◌, None, drop}
use Rattle.isle_index.specs.Entries.{all_of, unpacked_from}
use Rattle.isle_index.specs.Candidates.{nearest}
use Rattle.isle_index.proofs.candidates.nearest_name.Given as goal

abbrev pub invariant-loop-number : goal.invariant-loop-number
invariant-loop-number l =
    nearest l.place l.best (unpacked_from l.entries.texts.now l.number (drop l.number l.entries.items.now)) ≡ nearest l.place None (all_of l.entries)
