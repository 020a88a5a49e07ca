use Rattle.std.proofs.Common.{◌≡◌, drop, map}
use Rattle.isle_cli.specs.Arguments.{given_of}
use Rattle.isle_lint_core.specs.Finding.{finding_of}
use Rattle.isle_lint.specs.Report.{are_warned}
use Rattle.isle_lint.proofs.report.are_warned.Given as goal

abbrev pub invariant-loop-finding : goal.invariant-loop-finding
invariant-loop-finding l =
    are_warned (map given_of l.arguments) (map finding_of (drop l.finding-index l.told)) ≡ are_warned (map given_of l.arguments) (map finding_of l.told)
