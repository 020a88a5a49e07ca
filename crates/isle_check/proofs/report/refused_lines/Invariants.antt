use Rattle.std.proofs.Common.{◌≡◌, ◌++◌, drop, map}
use Rattle.isle_cli.specs.Sources.{source_of}
use Rattle.isle_check.specs.Report.{refused_lines}
use Rattle.isle_check.specs.ReportView.{lines_at}
use Rattle.isle_check.proofs.report.refused_lines.Given as goal

abbrev pub invariant-loop-file : goal.invariant-loop-file
invariant-loop-file l =
    lines_at l.lines.items ++ refused_lines l.format l.file (map source_of (drop l.file l.sources)) l.refusals
    ≡ refused_lines l.format 0 (map source_of l.sources) l.refusals
