use Rattle.isle_check_laws.proofs.HidingLaws.{hiding_law}
use Rattle.isle_check_laws.proofs.comparisons.hidden_rules_are_never_taken.Goals as goal

pub returns : goal.returns
returns g c = hiding_law
