use Rattle.isle_check_overlaps.proofs.Equality.{constraint_decides}
use Rattle.isle_check_laws.proofs.comparisons.constraints_are_the_same_if_equal.Goals as goal

pub returns : goal.returns
returns c = constraint_decides
