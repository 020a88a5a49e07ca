use Rattle.std.proofs.Common.{◌≡◌, ◌++◌, drop}
use Rattle.isle_check_environment.specs.Views.{rules_at}
use Rattle.isle_lsp_diagnostics.specs.Rules.{rules_at_file}
use Rattle.isle_lsp_diagnostics.proofs.rules.rules_at_file.Given as goal

abbrev pub invariant-loop-rule : goal.invariant-loop-rule
invariant-loop-rule l =
    rules_at l.found.items ++ rules_at_file l.number (rules_at (drop l.rule-index l.rules)) ≡ rules_at_file l.number (rules_at l.rules)
