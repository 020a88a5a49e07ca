use Rattle.std.proofs.Common.{◌≡◌, drop, map}
use Rattle.std.specs.List.{list_any}
use Rattle.isle_index.specs.Entries.{all_of, unpacked_from}
use Rattle.isle_index.specs.Renaming.{shares}
use Rattle.isle_index.proofs.rename.has_shared.Given as goal

abbrev pub invariant-loop-entry : goal.invariant-loop-entry
invariant-loop-entry l =
    list_any (λ s. shares l.owner (map (λ m. m.now) l.members) s.event) (unpacked_from l.entries.texts.now l.entry-index (drop l.entry-index l.entries.items.now))
    ≡ list_any (λ s. shares l.owner (map (λ m. m.now) l.members) s.event) (all_of l.entries)
