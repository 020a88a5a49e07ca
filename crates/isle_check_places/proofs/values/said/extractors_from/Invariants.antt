use Rattle.std.proofs.Common.{◌≡◌, ◌++◌, drop}
use Rattle.isle_check_places.specs.Views.{all_constrained_of, place_of}
use Rattle.isle_check_places.specs.values.Said.{distinct, extractors_from}
use Rattle.isle_check_places.specs.values.Views.{texts_of}
use Rattle.isle_check_places.proofs.values.SaidLemmas.{unknown}
use Rattle.isle_check_places.proofs.values.said.extractors_from.Given as goal

abbrev pub invariant-loop-constrained : goal.invariant-loop-constrained
invariant-loop-constrained l =
    texts_of l.made.items
    ++ unknown (texts_of l.made.items) (distinct (extractors_from (all_constrained_of (drop l.constrained-index l.constraints)) (place_of l.at)))
    ≡ distinct (extractors_from (all_constrained_of l.constraints) (place_of l.at))
