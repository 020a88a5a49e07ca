use Rattle.std.proofs.Common.{◌≡◌, ◌++◌, drop, map}
use Rattle.isle_check_recursion.specs.Conversions.{endless_from}
use Rattle.isle_check_environment.specs.Views.{converters_at}
use Rattle.isle_check_recursion.proofs.conversions.collected.Given as goal

abbrev pub invariant-loop-number : goal.invariant-loop-number
invariant-loop-number l =
    converters_at l.found.items ++ endless_from (map (λ v. v.items) l.needs) l.number (converters_at (drop l.number l.converters))
    ≡ endless_from (map (λ v. v.items) l.needs) 0 (converters_at l.converters)
