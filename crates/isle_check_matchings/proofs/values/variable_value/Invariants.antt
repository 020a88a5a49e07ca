use Rattle.std.proofs.Common.{◌≡◌, drop}
use Rattle.isle_check_matchings.specs.Values.{variable_value}
use Rattle.isle_check_matchings.specs.Views.{asks_of}
use Rattle.isle_check_matchings.proofs.values.variable_value.Given as goal

abbrev pub invariant-loop-ask : goal.invariant-loop-ask
invariant-loop-ask l =
    variable_value (asks_of (drop l.ask-index l.known)) l.variable ≡ variable_value (asks_of l.known) l.variable
