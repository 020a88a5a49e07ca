use Rattle.std.proofs.Common.{◌≡◌, drop}
use Rattle.isle_check_places.specs.Views.{all_constrained_of, place_of}
use Rattle.isle_check_places.specs.values.Next.{goes_on_with_each}
use Rattle.isle_check_places.proofs.values.next.goes_on_with_each.Given as goal

abbrev pub invariant-loop-constrained : goal.invariant-loop-constrained
invariant-loop-constrained l =
    goes_on_with_each (all_constrained_of (drop l.constrained-index l.constraints)) (place_of l.at) ≡ goes_on_with_each (all_constrained_of l.constraints) (place_of l.at)
