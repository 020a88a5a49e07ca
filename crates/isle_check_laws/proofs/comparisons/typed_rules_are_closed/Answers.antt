use Rattle.isle_check_laws.proofs.ClosedRules.{closed_law}
use Rattle.isle_check_laws.proofs.comparisons.typed_rules_are_closed.Goals as goal

pub returns : goal.returns
returns c = closed_law
