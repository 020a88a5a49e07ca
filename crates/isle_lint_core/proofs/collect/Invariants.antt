use Rattle.std.proofs.Common.{◌≡◌, ◌++◌, drop, map}
use Rattle.isle_ast.specs.TreeView.{definitions_of}
use Rattle.isle_lint_core.specs.Finding.{finding_of}
use Rattle.isle_lint_core.specs.Findings.{findings_in}
use Rattle.isle_lint_core.proofs.collect.Given as goal

abbrev pub invariant-loop-lint : goal.invariant-loop-lint
invariant-loop-lint l =
    map finding_of l.found.items ++ findings_in (drop l.lint-index l.lints) (definitions_of l.defs) ≡ findings_in l.lints (definitions_of l.defs)
