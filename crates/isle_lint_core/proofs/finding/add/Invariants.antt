use Rattle.std.proofs.Common.{◌≡◌, ◌++◌, drop, map}
use Rattle.isle_lint_core.specs.Finding.{all_found, finding_of}
use Rattle.isle_lint_core.specs.Names.{names_at}
use Rattle.isle_lint_core.proofs.finding.add.Given as goal

abbrev pub invariant-loop-name : goal.invariant-loop-name
invariant-loop-name l =
    map finding_of l.found.items ++ all_found l.lint (names_at (drop l.name-index l.names))
    ≡ map finding_of l.fn.found.items ++ all_found l.lint (names_at l.names)
