use Rattle.isle_check_laws.proofs.TypeErrors.{types_broken}
use Rattle.isle_check_laws.proofs.errors.errors_of_types_name_broken_types.Goals as goal

pub returns : goal.returns
returns c = types_broken
