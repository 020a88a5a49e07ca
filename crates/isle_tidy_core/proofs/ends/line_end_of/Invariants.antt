use Rattle.std.proofs.Common.{◌≡◌, ◌-◌, ◌≤◌, drop, length}
use Rattle.isle_tidy_core.specs.Ends.{line_end_of}
use Rattle.isle_tidy_core.proofs.ends.line_end_of.Given as goal

abbrev pub invariant-loop-at : goal.invariant-loop-at
invariant-loop-at l = (l.at ≤ length l.bytes) × (line_end_of (drop l.at l.bytes) ≡ line_end_of l.bytes)

abbrev pub decreases-loop-at : goal.decreases-loop-at
decreases-loop-at l = length l.bytes - l.at
