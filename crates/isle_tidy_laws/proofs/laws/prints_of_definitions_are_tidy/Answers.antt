use Rattle.isle_tidy_laws.proofs.PrintedDefinitions.{definitions_tidy}
use Rattle.isle_tidy_laws.proofs.laws.prints_of_definitions_are_tidy.Goals as goal

pub returns : goal.returns
returns c = definitions_tidy
