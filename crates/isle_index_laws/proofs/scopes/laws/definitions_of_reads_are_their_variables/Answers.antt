use Rattle.isle_index_laws.proofs.scopes.Owners.{found_definition}
use Rattle.isle_index_laws.proofs.scopes.laws.definitions_of_reads_are_their_variables.Goals as goal

pub returns : goal.returns
returns c = found_definition
