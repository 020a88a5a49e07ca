use Rattle.std.proofs.Common.{◌≡◌, drop}
use Rattle.isle_check_environment.specs.Views.{rules_at}
use Rattle.isle_check_environment.specs.signatures.Views.{environment_of}
use Rattle.isle_lsp_diagnostics.specs.Hovers.{typed_at}
use Rattle.isle_lsp_diagnostics.proofs.hovers.typed_at.Given as goal

abbrev pub invariant-loop-rule : goal.invariant-loop-rule
invariant-loop-rule l =
    typed_at (environment_of l.env) l.offset (rules_at (drop l.rule-index l.rules)) ≡ typed_at (environment_of l.env) l.offset (rules_at l.rules)
