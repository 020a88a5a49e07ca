use Rattle.std.proofs.Common.{◌≡◌, take}
use Rattle.isle_check_environment.specs.signatures.Views.{environment_of}
use Rattle.isle_check_rules.specs.Views.{typed_rules_of, warnings_of}
use Rattle.isle_check_rules.specs.Warnings.{multi_extractors}
use Rattle.isle_check_rules.proofs.extractors.multi_extractors.Given as goal

abbrev pub invariant-loop-rule : goal.invariant-loop-rule
invariant-loop-rule l =
    warnings_of l.found.items ≡ multi_extractors (environment_of l.env) (typed_rules_of (take l.rule-index l.rules))
