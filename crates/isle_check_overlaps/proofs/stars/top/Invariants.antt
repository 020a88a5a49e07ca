use Rattle.std.proofs.Common.{◌≡◌, ◌≤◌}
use Rattle.isle_check_overlaps.specs.Stars.{top}
use Rattle.isle_check_overlaps.specs.Views.{pairs_of}
use Rattle.isle_check_overlaps.proofs.stars.top.Given as goal

abbrev pub invariant-loop-number : goal.invariant-loop-number
invariant-loop-number l = record {
  best : l.best ≡ top (pairs_of l.pairs) l.number;
  within : l.best ≤ l.number;
}
