use Rattle.std.proofs.Common.{◌≡◌, ◌++◌, drop}
use Rattle.isle_ast.specs.TreeView.{definitions_of}
use Rattle.isle_lint_core.specs.Names.{names_at}
use Rattle.isle_lint_core.specs.RuleNames as wanted
use Rattle.isle_lint_core.proofs.rule_names.rule_names.Given as goal

abbrev pub invariant-loop-def : goal.invariant-loop-def
invariant-loop-def l =
    names_at l.names.items ++ wanted.rule_names (definitions_of (drop l.def-index l.defs)) ≡ wanted.rule_names (definitions_of l.defs)
