use Rattle.std.proofs.Common.{◌≡◌, ◌≤◌, ◌<◌, ℕ, get_or, length, take}
use Rattle.isle_check_overlaps.specs.Degrees.{AreDegrees}
use Rattle.isle_check_overlaps.specs.Views.{pairs_of}
use Rattle.isle_check_overlaps.proofs.stars.degrees.Given as goal

abbrev pub invariant-loop-pair : goal.invariant-loop-pair
invariant-loop-pair l = record {
  count : length l.degrees.items ≡ l.count;
  each : AreDegrees l.degrees.items (pairs_of (take l.pair-index l.pairs));
  small : (number : ℕ) → number < length l.degrees.items → get_or l.degrees.items number 0 ≤ l.pair-index;
}
