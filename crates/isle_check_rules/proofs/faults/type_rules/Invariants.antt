use Rattle.std.proofs.Common.{◌≡◌, [], drop}
use Rattle.isle_check_environment.specs.Views.{rules_at}
use Rattle.isle_check_environment.specs.signatures.Views.{environment_of}
use Rattle.isle_check_rules.specs.RuleTypes.{type_rules}
use Rattle.isle_check_rules.specs.Views.{rules_typing_of}
use Rattle.isle_check_rules.proofs.faults.type_rules.Given as goal

abbrev pub invariant-loop-rule : goal.invariant-loop-rule
invariant-loop-rule l =
    type_rules l.depth (environment_of l.env) (rules_at (drop l.rule-index l.rules)) (rules_typing_of l.made)
    ≡ type_rules l.depth (environment_of l.env) (rules_at l.rules) (record { typed = []; faults = [] })
