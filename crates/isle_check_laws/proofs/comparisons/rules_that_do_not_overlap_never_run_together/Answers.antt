use Rattle.isle_check_laws.proofs.RuleLaws.{overlap_law}
use Rattle.isle_check_laws.proofs.comparisons.rules_that_do_not_overlap_never_run_together.Goals as goal

pub returns : goal.returns
returns g c = overlap_law
