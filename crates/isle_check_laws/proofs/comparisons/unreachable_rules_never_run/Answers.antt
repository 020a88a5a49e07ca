use Rattle.isle_check_laws.proofs.RuleLaws.{reachable_law}
use Rattle.isle_check_laws.proofs.comparisons.unreachable_rules_never_run.Goals as goal

pub returns : goal.returns
returns g c = λ k w r input. reachable_law k w input r
