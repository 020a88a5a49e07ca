use Rattle.std.proofs.Common.{◌≡◌, ◌+◌, ◌≤◌, drop}
use Rattle.isle_check.specs.Report.{count_of}
use Rattle.isle_check.specs.ReportView.{lines_at}
use Rattle.isle_check.proofs.report.count_of.Given as goal

abbrev pub invariant-loop-line : goal.invariant-loop-line
invariant-loop-line l = record {
  count : l.count + count_of l.is_error (lines_at (drop l.line-index l.lines)) ≡ count_of l.is_error (lines_at l.lines);
  small : l.count ≤ l.line-index;
}
