use Rattle.std.proofs.Common.{◌≡◌, drop}
use Rattle.isle_check_places.specs.Settling.{constraint_at}
use Rattle.isle_check_places.specs.Views.{all_constrained_of, place_of}
use Rattle.isle_check_places.proofs.settling.constraint_at.Given as goal

abbrev pub invariant-loop-constrained : goal.invariant-loop-constrained
invariant-loop-constrained l =
    constraint_at (all_constrained_of (drop l.constrained-index l.constraints)) (place_of l.at) ≡ constraint_at (all_constrained_of l.constraints) (place_of l.at)
