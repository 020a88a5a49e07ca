use Rattle.std.proofs.Common.{◌≡◌, ◌++◌, take}
use Rattle.isle_check_environment.specs.Views.{rules_at}
use Rattle.isle_check_environment.specs.signatures.Views.{environment_of}
use Rattle.isle_check_typing.specs.Views.{faults_of}
use Rattle.isle_check_rules.specs.RuleFaults.{terms_without_constructor}
use Rattle.isle_check_rules.proofs.faults.add_terms_without_constructor.Given as goal

abbrev pub invariant-loop-rule : goal.invariant-loop-rule
invariant-loop-rule l =
    faults_of l.found.items ≡ faults_of l.fn.found.items ++ terms_without_constructor (environment_of l.env) (rules_at (take l.rule-index l.rules))
