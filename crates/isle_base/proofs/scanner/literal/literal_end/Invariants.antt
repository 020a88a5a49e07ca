use Rattle.std.proofs.Common.{◌≡◌, ◌+◌, ◌-◌, ◌≤◌, drop, length}
use Rattle.std.specs.List.{prefix_len}
use Rattle.isle_base.specs.Literals.{in_literal}
use Rattle.isle_base.proofs.scanner.literal.literal_end.Given as goal

abbrev pub invariant-loop-at : goal.invariant-loop-at
invariant-loop-at l =
    (l.at ≤ length l.bytes) × (l.at + prefix_len in_literal (drop l.at l.bytes) ≡ l.fn.from + prefix_len in_literal (drop l.fn.from l.bytes))

abbrev pub decreases-loop-at : goal.decreases-loop-at
decreases-loop-at l = length l.bytes - l.at
