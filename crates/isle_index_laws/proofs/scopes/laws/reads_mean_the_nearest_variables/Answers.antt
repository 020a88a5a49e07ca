use Rattle.isle_index_laws.proofs.scopes.Binders.{known_variables}
use Rattle.isle_index_laws.proofs.scopes.laws.reads_mean_the_nearest_variables.Goals as goal

pub returns : goal.returns
returns c = known_variables
