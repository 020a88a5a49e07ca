use Rattle.std.proofs.Common.{◌≡◌, ◌++◌, drop, map, filter}
use Rattle.std.specs.List.{filter_map}
use Rattle.isle_index.specs.Entries.{all_of, unpacked_from}
use Rattle.isle_resolve.specs.Names.{named_of}
use Rattle.isle_index.specs.Renaming.{changes, position}
use Rattle.isle_index.proofs.rename.changed_places.Given as goal

abbrev pub invariant-loop-number : goal.invariant-loop-number
invariant-loop-number l =
    l.places.items ++ filter_map (λ s. position s.event) (filter (changes (map (λ m. m.now) l.members.items) (named_of l.name)) (unpacked_from l.entries.texts.now l.number (drop l.number l.entries.items.now)))
    ≡ filter_map (λ s. position s.event) (filter (changes (map (λ m. m.now) l.members.items) (named_of l.name)) (all_of l.entries))
