use Rattle.isle_check_laws.proofs.RecursionErrors.{recursions_broken}
use Rattle.isle_check_laws.proofs.errors.recursions_name_cycles_of_extractors.Goals as goal

pub returns : goal.returns
returns c = recursions_broken
