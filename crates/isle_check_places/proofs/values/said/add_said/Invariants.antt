use Rattle.std.proofs.Common.{◌≡◌, ◌++◌, drop, map}
use Rattle.isle_check_places.specs.values.Said.{said_extractor}
use Rattle.isle_check_places.specs.values.Views.{all_said_of, texts_of}
use Rattle.isle_check_places.proofs.values.said.add_said.Given as goal

abbrev pub invariant-loop-term : goal.invariant-loop-term
invariant-loop-term l =
    all_said_of l.made.items ++ map said_extractor (texts_of (drop l.term-index l.extractors))
    ≡ all_said_of l.fn.made.items ++ map said_extractor (texts_of l.extractors)
