use Rattle.std.proofs.Common.{◌≡◌, ◌++◌, drop, map}
use Rattle.isle_check_places.specs.Views.{places_of}
use Rattle.isle_check_matchings.specs.RuleAsks.{needed}
use Rattle.isle_check_matchings.specs.Views.{asks_of}
use Rattle.isle_check_matchings.proofs.rules.add_needs.Given as goal

abbrev pub invariant-loop-place : goal.invariant-loop-place
invariant-loop-place l =
    asks_of l.asks.items ++ map needed (places_of (drop l.place-index l.needs)) ≡ asks_of l.fn.asks.items ++ map needed (places_of l.needs)
