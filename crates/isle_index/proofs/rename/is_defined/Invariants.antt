use Rattle.std.proofs.Common.{◌≡◌, drop}
use Rattle.std.specs.List.{list_any}
use Rattle.isle_index.specs.Entries.{all_of, unpacked_from}
use Rattle.isle_resolve.specs.Names.{named_of}
use Rattle.isle_index.specs.Renaming.{defines_it}
use Rattle.isle_index.proofs.rename.is_defined.Given as goal

abbrev pub invariant-loop-number : goal.invariant-loop-number
invariant-loop-number l =
    list_any (defines_it (named_of l.name)) (unpacked_from l.entries.texts.now l.number (drop l.number l.entries.items.now)) ≡ list_any (defines_it (named_of l.name)) (all_of l.entries)
