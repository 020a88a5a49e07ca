use Rattle.std.proofs.Common.{◌≡◌, drop}
use Rattle.isle_index.specs.Entries.{all_of, unpacked_from}
use Rattle.isle_index.specs.Renaming.{first_variant}
use Rattle.isle_index.proofs.parts.first_variant.Given as goal

abbrev pub invariant-loop-entry : goal.invariant-loop-entry
invariant-loop-entry l =
    first_variant l.term (unpacked_from l.entries.texts.now l.entry-index (drop l.entry-index l.entries.items.now)) ≡ first_variant l.term (all_of l.entries)
