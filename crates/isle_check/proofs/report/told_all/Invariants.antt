use Rattle.std.proofs.Common.{◌≡◌, ◌++◌, drop, map}
use Rattle.isle_cli.specs.Arguments.{given_of}
use Rattle.isle_cli.specs.Sources.{source_of}
use Rattle.isle_check_core.specs.Views.{findings_of}
use Rattle.isle_check.specs.Report.{told_all}
use Rattle.isle_check.specs.ReportView.{told_node}
use Rattle.isle_check.proofs.report.told_all.Given as goal

abbrev pub invariant-loop-finding : goal.invariant-loop-finding
invariant-loop-finding l =
    map told_node l.told.items ++ told_all (map given_of l.arguments) (map source_of l.sources) (findings_of (drop l.finding-index l.found))
    ≡ told_all (map given_of l.arguments) (map source_of l.sources) (findings_of l.found)
