use Rattle.std.proofs.Common.{◌≡◌, ◌++◌, drop, map}
use Rattle.isle_check_environment.specs.Views.{rules_at}
use Rattle.isle_check_environment.specs.signatures.Views.{environment_of}
use Rattle.isle_lsp_diagnostics.specs.Hints.{hint_of, rules_hints}
use Rattle.isle_lsp_diagnostics.proofs.hints.rules_hints.Given as goal

abbrev pub invariant-loop-rule : goal.invariant-loop-rule
invariant-loop-rule l =
    map hint_of l.hints.items ++ rules_hints l.text (environment_of l.env) (rules_at (drop l.rule-index l.rules))
    ≡ rules_hints l.text (environment_of l.env) (rules_at l.rules)
