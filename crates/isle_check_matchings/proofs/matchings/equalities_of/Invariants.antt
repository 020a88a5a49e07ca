use Rattle.std.proofs.Common.{◌≡◌, ◌++◌, drop}
use Rattle.std.specs.List.{flat_map}
use Rattle.isle_check_places.specs.Views.{all_equalities_of}
use Rattle.isle_check_matchings.specs.Matchings.{equalities_of, equality_of}
use Rattle.isle_check_matchings.specs.Views.{asks_of}
use Rattle.isle_check_matchings.proofs.matchings.equalities_of.Given as goal

abbrev pub invariant-loop-ask : goal.invariant-loop-ask
invariant-loop-ask l =
    all_equalities_of l.made.items ++ flat_map (equality_of (asks_of l.asks)) (asks_of (drop l.ask-index l.asks))
    ≡ equalities_of (asks_of l.asks)
