use Rattle.std.proofs.Common.{◌≡◌, ◌+◌, ◌-◌, ◌≤◌, drop, length}
use Rattle.std.specs.List.{prefix_len}
use Rattle.isle_tidy_layout.specs.Columns.{is_printable}
use Rattle.isle_tidy_layout.proofs.columns.are_printable.Given as goal

abbrev pub invariant-loop-at : goal.invariant-loop-at
invariant-loop-at l =
    (l.at ≤ length l.bytes) × (l.at + prefix_len is_printable (drop l.at l.bytes) ≡ l.fn.from + prefix_len is_printable (drop l.fn.from l.bytes))

abbrev pub decreases-loop-at : goal.decreases-loop-at
decreases-loop-at l = length l.bytes - l.at
