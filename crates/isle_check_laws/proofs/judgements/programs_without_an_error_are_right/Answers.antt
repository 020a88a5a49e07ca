use Rattle.isle_check_laws.proofs.ProgramLaws.{programs_typed}
use Rattle.isle_check_laws.proofs.judgements.programs_without_an_error_are_right.Goals as goal

pub returns : goal.returns
returns c = programs_typed
