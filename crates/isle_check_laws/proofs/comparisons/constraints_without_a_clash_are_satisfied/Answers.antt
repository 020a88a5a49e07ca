use Rattle.isle_check_laws.proofs.ClashLaws.{clash_law}
use Rattle.isle_check_laws.proofs.comparisons.constraints_without_a_clash_are_satisfied.Goals as goal

pub returns : goal.returns
returns c = clash_law
