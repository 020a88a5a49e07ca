use Rattle.isle_check_laws.proofs.RuleValues.{runs_law}
use Rattle.isle_check_laws.proofs.comparisons.closed_rules_run_if_they_get_what_they_ask.Goals as goal

pub returns : goal.returns
returns g c = λ k w r input. runs_law w input k r
