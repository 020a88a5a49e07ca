use Rattle.isle_check_laws.proofs.FindingErrors.{errors_broken}
use Rattle.isle_check_laws.proofs.findings.errors_name_what_is_broken.Goals as goal

pub returns : goal.returns
returns c = errors_broken
