use Rattle.std.proofs.Common.{◌≡◌, ◌++◌, drop}
use Rattle.isle_check_matchings.specs.Views.{asks_of}
use Rattle.isle_check_matchings.proofs.values.copied_asks.Given as goal

abbrev pub invariant-loop-ask : goal.invariant-loop-ask
invariant-loop-ask l =
    asks_of l.made.items ++ asks_of (drop l.ask-index l.asks) ≡ asks_of l.asks
