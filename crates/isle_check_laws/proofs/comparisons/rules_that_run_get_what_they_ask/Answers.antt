use Rattle.isle_check_laws.proofs.RuleRuns.{run_law}
use Rattle.isle_check_laws.proofs.comparisons.rules_that_run_get_what_they_ask.Goals as goal

pub returns : goal.returns
returns g c = run_law
