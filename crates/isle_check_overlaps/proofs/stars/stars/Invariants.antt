use Rattle.std.proofs.Common.{◌≡◌, ◌++◌, ◌-◌, length}
use Rattle.isle_check_overlaps.specs.Stars.{stars}
use Rattle.isle_check_overlaps.specs.Views.{pairs_of, stars_of}
use Rattle.isle_check_overlaps.proofs.stars.stars.Given as goal

abbrev pub invariant-loop-step : goal.invariant-loop-step
invariant-loop-step l =
    stars_of l.made.items ++ stars (length (pairs_of l.fn.pairs.items) - l._step) l.count (pairs_of l.left.items)
    ≡ stars (length (pairs_of l.fn.pairs.items)) l.count (pairs_of l.fn.pairs.items)
