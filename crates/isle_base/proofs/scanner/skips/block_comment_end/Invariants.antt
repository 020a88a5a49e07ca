use Rattle.std.proofs.Common.{◌+◌, ◌-◌, ◌≤◌, length}
use Rattle.isle_base.proofs.Places.{Walk}
use Rattle.isle_base.proofs.scanner.skips.block_comment_end.Given as goal

abbrev pub invariant-loop-depth : goal.invariant-loop-depth
invariant-loop-depth l = (l.at ≤ length l.bytes) × (l.depth ≤ l.at + 1) × Walk l.bytes l.fn.from l.at l.depth

abbrev pub decreases-loop-depth : goal.decreases-loop-depth
decreases-loop-depth l = length l.bytes - l.at
