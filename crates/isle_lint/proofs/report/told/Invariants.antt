use Rattle.std.proofs.Common.{map}
use Rattle.isle_lint_core.specs.Finding.{finding_of}
use Rattle.isle_lint.proofs.ReportLemmas.{Goes-on}
use Rattle.isle_lint.proofs.report.told.Given as goal

abbrev pub invariant-loop-file : goal.invariant-loop-file
invariant-loop-file l = Goes-on l.file l.sources (map finding_of l.found) (map finding_of l.told.items)
