use Rattle.isle_check_laws.proofs.EnvironmentLaws.{environment_true}
use Rattle.isle_check_laws.proofs.errors.environments_are_true_of_programs.Goals as goal

pub returns : goal.returns
returns c = environment_true
