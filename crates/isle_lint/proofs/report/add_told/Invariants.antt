use Rattle.std.proofs.Common.{◌≡◌, ◌++◌, drop, map}
use Rattle.isle_lint_core.specs.Finding.{finding_of}
use Rattle.isle_lint.specs.Report.{told_in}
use Rattle.isle_lint.proofs.report.add_told.Given as goal

abbrev pub invariant-loop-finding : goal.invariant-loop-finding
invariant-loop-finding l =
    map finding_of l.told.items ++ told_in l.file l.allowances (map finding_of (drop l.finding-index l.found))
    ≡ map finding_of l.fn.told.items ++ told_in l.file l.allowances (map finding_of l.found)
