use Rattle.std.proofs.Common.{◌≡◌, ◌++◌, map}
use Rattle.std.specs.Vec.Iter.{into_iter_items}
use Rattle.isle_base_source.specs.Source.{source_of}
use Rattle.isle_base_source.proofs.files.Files.from_names_and_contents.Given as goal

abbrev pub invariant-loop-name : goal.invariant-loop-name
invariant-loop-name l =
    l.sources.items ++ map source_of (into_iter_items l.name-iterator) ≡ map source_of l.fn.files.items
