use Rattle.std.proofs.Common.{◌≡◌, drop}
use Rattle.std.specs.List.{list_any}
use Rattle.isle_check_places.specs.Comparing.{differ}
use Rattle.isle_check_places.specs.Views.{all_constrained_of, constrained_of}
use Rattle.isle_check_places.proofs.comparing.differs.Given as goal

abbrev pub invariant-loop-other : goal.invariant-loop-other
invariant-loop-other l =
    list_any (λ d. differ (constrained_of l.constrained) d) (all_constrained_of (drop l.other-index l.others))
    ≡ list_any (λ d. differ (constrained_of l.constrained) d) (all_constrained_of l.others)
