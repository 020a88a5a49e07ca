use Rattle.std.proofs.Common.{◌≡◌, ◌++◌, drop}
use Rattle.isle_ast.specs.TreeView.{definitions_of}
use Rattle.isle_lint_core.specs.Findings.{asked_of, of_rules}
use Rattle.isle_lint_core.specs.Names.{names_at}
use Rattle.isle_lint_core.proofs.rules.find_variables.Given as goal

abbrev pub invariant-loop-def : goal.invariant-loop-def
invariant-loop-def l =
    names_at l.found.items ++ of_rules (asked_of l.asked) (definitions_of (drop l.def-index l.defs))
    ≡ of_rules (asked_of l.asked) (definitions_of l.defs)
