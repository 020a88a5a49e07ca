use Rattle.std.proofs.Common.{◌≡◌, ◌++◌, drop}
use Rattle.isle_check_overlaps.specs.Stars.{without}
use Rattle.isle_check_overlaps.specs.Views.{pairs_of}
use Rattle.isle_check_overlaps.proofs.stars.without.Given as goal

abbrev pub invariant-loop-pair : goal.invariant-loop-pair
invariant-loop-pair l = pairs_of l.made.items ++ without l.number (pairs_of (drop l.pair-index l.pairs)) ≡ without l.number (pairs_of l.pairs)
