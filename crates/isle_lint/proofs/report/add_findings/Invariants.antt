-- The lines so far, and then those of the other findings, are all.
use Rattle.std.proofs.Common.{◌≡◌, ◌++◌, drop, map, string_bytes}
use Rattle.isle_cli.specs.Sources.{source_of}
use Rattle.isle_lint_core.specs.Finding.{finding_of}
use Rattle.isle_lint.specs.Linted.{linted_of}
use Rattle.isle_lint.specs.Report.{tagged_lines}
use Rattle.isle_lint.proofs.report.add_findings.Given as goal

abbrev pub invariant-loop-finding : goal.invariant-loop-finding
invariant-loop-finding l =
    string_bytes l.text ++ tagged_lines l.format (map linted_of l.linted) l.file (source_of l.source) (map finding_of (drop l.finding-index l.found))
    ≡ string_bytes l.fn.text ++ tagged_lines l.format (map linted_of l.linted) l.file (source_of l.source) (map finding_of l.found)
