use Rattle.isle_check_laws.proofs.RootErrors.{roots_broken}
use Rattle.isle_check_laws.proofs.errors.errors_of_roots_name_broken_rules.Goals as goal

pub returns : goal.returns
returns c = roots_broken
