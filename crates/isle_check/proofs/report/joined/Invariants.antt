use Rattle.std.proofs.Common.{◌≡◌, ◌++◌, drop, string_bytes}
use Rattle.isle_check.specs.Report.{joined}
use Rattle.isle_check.specs.ReportView.{lines_at}
use Rattle.isle_check.proofs.report.joined.Given as goal

abbrev pub invariant-loop-line : goal.invariant-loop-line
invariant-loop-line l = string_bytes l.text ++ joined (lines_at (drop l.line-index l.lines)) ≡ joined (lines_at l.lines)
