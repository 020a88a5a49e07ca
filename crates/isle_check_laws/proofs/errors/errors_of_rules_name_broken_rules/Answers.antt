use Rattle.isle_check_laws.proofs.RuleErrors.{rules_broken}
use Rattle.isle_check_laws.proofs.errors.errors_of_rules_name_broken_rules.Goals as goal

pub returns : goal.returns
returns c = rules_broken
