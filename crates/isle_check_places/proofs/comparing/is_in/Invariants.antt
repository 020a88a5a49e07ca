use Rattle.std.proofs.Common.{◌≡◌, drop}
use Rattle.isle_check_places.specs.Comparing.{is_in}
use Rattle.isle_check_places.specs.Views.{all_constrained_of, constrained_of}
use Rattle.isle_check_places.proofs.comparing.is_in.Given as goal

abbrev pub invariant-loop-other : goal.invariant-loop-other
invariant-loop-other l =
    is_in (constrained_of l.constrained) (all_constrained_of (drop l.other-index l.others)) ≡ is_in (constrained_of l.constrained) (all_constrained_of l.others)
