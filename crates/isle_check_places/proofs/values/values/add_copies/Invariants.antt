use Rattle.std.proofs.Common.{◌≡◌, ◌++◌, drop}
use Rattle.isle_check_places.specs.Views.{all_constrained_of}
use Rattle.isle_check_places.proofs.values.values.add_copies.Given as goal

abbrev pub invariant-loop-constrained : goal.invariant-loop-constrained
invariant-loop-constrained l =
    all_constrained_of l.made.items ++ all_constrained_of (drop l.constrained-index l.constraints)
    ≡ all_constrained_of l.fn.made.items ++ all_constrained_of l.constraints
