use Rattle.std.proofs.Common.{◌≡◌, ◌++◌, drop, map}
use Rattle.isle_cli.specs.Sources.{source_of}
use Rattle.isle_check.specs.Report.{finding_lines}
use Rattle.isle_check.specs.ReportView.{lines_at, told_node}
use Rattle.isle_check.proofs.report.finding_lines.Given as goal

abbrev pub invariant-loop-one : goal.invariant-loop-one
invariant-loop-one l =
    lines_at l.lines.items ++ finding_lines l.format (map source_of l.sources) (map told_node (drop l.one-index l.told))
    ≡ finding_lines l.format (map source_of l.sources) (map told_node l.told)
