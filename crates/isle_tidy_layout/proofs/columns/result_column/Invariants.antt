use Rattle.std.proofs.Common.{◌≡◌, drop}
use Rattle.isle_tidy_layout.specs.Placing.{result_column}
use Rattle.isle_tidy_layout.proofs.columns.result_column.Given as goal

abbrev pub invariant-loop-one : goal.invariant-loop-one
invariant-loop-one l = result_column l.column (drop l.one-index l.columns) ≡ result_column l.column l.columns
