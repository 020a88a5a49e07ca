use Rattle.std.proofs.Common.{◌≡◌, drop}
use Rattle.std.specs.List.{list_any}
use Rattle.isle_index.specs.Entries.{all_of, unpacked_from}
use Rattle.isle_index.specs.Renaming.{leaves}
use Rattle.isle_index.proofs.rename.has_left.Given as goal

abbrev pub invariant-loop-number : goal.invariant-loop-number
invariant-loop-number l =
    list_any (leaves l.text) (unpacked_from l.entries.texts.now l.number (drop l.number l.entries.items.now)) ≡ list_any (leaves l.text) (all_of l.entries)
