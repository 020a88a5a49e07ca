use Rattle.std.proofs.Common.{◌≡◌, ◌++◌, take}
use Rattle.isle_check_environment.specs.Views.{rules_at}
use Rattle.isle_check_environment.specs.signatures.Views.{environment_of}
use Rattle.isle_check_rules.specs.Views.{warnings_of}
use Rattle.isle_check_rules.specs.Warnings.{conditions_without_constructor}
use Rattle.isle_check_rules.proofs.warnings.add_conditions.Given as goal

abbrev pub invariant-loop-rule : goal.invariant-loop-rule
invariant-loop-rule l =
    warnings_of l.found.items ≡ warnings_of l.fn.found.items ++ conditions_without_constructor (environment_of l.env) (rules_at (take l.rule-index l.rules))
