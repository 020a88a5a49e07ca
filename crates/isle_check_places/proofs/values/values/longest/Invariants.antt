use Rattle.std.proofs.Common.{◌≡◌, max, drop}
use Rattle.isle_check_places.specs.Views.{all_constrained_of}
use Rattle.isle_check_places.specs.values.Values.{longest}
use Rattle.isle_check_places.proofs.values.values.longest.Given as goal

abbrev pub invariant-loop-constrained : goal.invariant-loop-constrained
invariant-loop-constrained l =
    max l.most (longest (all_constrained_of (drop l.constrained-index l.constraints))) ≡ longest (all_constrained_of l.constraints)
