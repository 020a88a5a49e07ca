use Rattle.std.proofs.Common.{List, ℕ, ◌-◌, ◌≤◌, drop, length}
use Rattle.isle_base.specs.Skips.{Skip}
use Rattle.isle_base.proofs.scanner.skips.skip_end.Given as goal

abbrev pub invariant-loop-byte : goal.invariant-loop-byte
invariant-loop-byte l =
    (l.at ≤ length l.bytes) × ((rest : List ℕ) → Skip (drop l.at l.bytes) rest → Skip (drop l.fn.from l.bytes) rest)

abbrev pub decreases-loop-byte : goal.decreases-loop-byte
decreases-loop-byte l = length l.bytes - l.at
