use Rattle.isle_check_laws.proofs.EmptyGroups.{every_group_empty}
use Rattle.isle_check_laws.proofs.findings.no_error_means_every_group_is_empty.Goals as goal

pub returns : goal.returns
returns c = every_group_empty
