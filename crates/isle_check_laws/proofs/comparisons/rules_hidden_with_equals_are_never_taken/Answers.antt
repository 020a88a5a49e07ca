use Rattle.isle_check_laws.proofs.HidingLaws.{equal_hiding_law}
use Rattle.isle_check_laws.proofs.comparisons.rules_hidden_with_equals_are_never_taken.Goals as goal

pub returns : goal.returns
returns g c = equal_hiding_law
