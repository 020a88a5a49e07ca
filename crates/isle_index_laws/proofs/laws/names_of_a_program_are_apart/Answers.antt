use Rattle.isle_index_laws.proofs.Apart.{program_apart}
use Rattle.isle_index_laws.proofs.laws.names_of_a_program_are_apart.Goals as goal

pub returns : goal.returns
returns c = program_apart
