use Rattle.std.proofs.Common.{◌≡◌, drop}
use Rattle.isle_check_places.specs.Comparing.{within}
use Rattle.isle_check_places.specs.Views.{all_constrained_of}
use Rattle.isle_check_places.proofs.comparing.within.Given as goal

abbrev pub invariant-loop-constrained : goal.invariant-loop-constrained
invariant-loop-constrained l =
    within (all_constrained_of (drop l.constrained-index l.a)) (all_constrained_of l.b) ≡ within (all_constrained_of l.a) (all_constrained_of l.b)
