use Rattle.isle_check_laws.proofs.ComparisonLaws.{within_law}
use Rattle.isle_check_laws.proofs.comparisons.constraints_are_within_others_if_these_imply_them.Goals as goal

pub returns : goal.returns
returns c = within_law
