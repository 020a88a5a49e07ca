use Rattle.isle_index_laws.proofs.Replaced.{replacing_renames}
use Rattle.isle_index_laws.proofs.names.places_are_those_of_the_name.Goals as goal

pub returns : goal.returns
returns c = replacing_renames
