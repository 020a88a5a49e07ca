use Rattle.std.proofs.Common.{◌≡◌, ◌+◌, ◌-◌, ◌≤◌, drop, length}
use Rattle.isle_tidy_core.proofs.Ahead.{ahead}
use Rattle.isle_tidy_core.proofs.closings.closings_at.Given as goal

abbrev pub invariant-loop-at : goal.invariant-loop-at
invariant-loop-at l =
    (l.count + ahead (drop l.at l.bytes) ≡ ahead (drop l.from l.bytes)) × (l.count ≤ l.at) × (l.at ≤ length l.bytes)

abbrev pub decreases-loop-at : goal.decreases-loop-at
decreases-loop-at l = length l.bytes - l.at
