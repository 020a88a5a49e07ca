use Rattle.isle_check_laws.proofs.ExternErrors.{externs_broken}
use Rattle.isle_check_laws.proofs.errors.errors_of_externs_name_broken_externs.Goals as goal

pub returns : goal.returns
returns c = externs_broken
