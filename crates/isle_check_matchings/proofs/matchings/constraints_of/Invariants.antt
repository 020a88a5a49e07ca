use Rattle.std.proofs.Common.{◌≡◌, ◌++◌}
use Rattle.std.specs.Vec.Iter.{into_iter_items}
use Rattle.isle_check_places.specs.Views.{all_constrained_of}
use Rattle.isle_check_matchings.specs.Matchings.{constraints_of}
use Rattle.isle_check_matchings.specs.Views.{asks_of}
use Rattle.isle_check_matchings.proofs.matchings.constraints_of.Given as goal

abbrev pub invariant-loop-ask : goal.invariant-loop-ask
invariant-loop-ask l =
    all_constrained_of l.made.items ++ constraints_of (asks_of (into_iter_items l.ask-iterator)) ≡ constraints_of (asks_of l.fn.asks.items)
