use Rattle.isle_check_laws.proofs.RightPrograms.{right}
use Rattle.isle_check_laws.proofs.findings.no_error_means_right_by_the_rules.Goals as goal

pub returns : goal.returns
returns c = right
