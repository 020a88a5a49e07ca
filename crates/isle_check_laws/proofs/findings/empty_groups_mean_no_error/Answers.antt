use Rattle.isle_check_laws.proofs.EmptyGroups.{no_error_told}
use Rattle.isle_check_laws.proofs.findings.empty_groups_mean_no_error.Goals as goal

pub returns : goal.returns
returns c = no_error_told
