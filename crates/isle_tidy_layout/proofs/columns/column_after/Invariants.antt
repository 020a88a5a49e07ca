use Rattle.std.proofs.Common.{◌≡◌, ◌+◌, ◌≤◌, drop}
use Rattle.isle_tidy_layout.specs.Placing.{column_after}
use Rattle.isle_tidy_layout.proofs.columns.column_after.Given as goal

abbrev pub invariant-loop-byte : goal.invariant-loop-byte
invariant-loop-byte l =
    (column_after l.column (drop l.byte-index l.bytes) ≡ column_after l.fn.column l.bytes) × (l.column ≤ l.fn.column + l.byte-index)
