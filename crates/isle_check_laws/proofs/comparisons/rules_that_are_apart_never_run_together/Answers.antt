use Rattle.isle_check_laws.proofs.RuleLaws.{apart_rules_law}
use Rattle.isle_check_laws.proofs.comparisons.rules_that_are_apart_never_run_together.Goals as goal

pub returns : goal.returns
returns g c = apart_rules_law
