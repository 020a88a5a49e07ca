use Rattle.isle_index_laws.proofs.scopes.Binders.{first_variables}
use Rattle.isle_index_laws.proofs.scopes.laws.patterns_mean_their_first_variables.Goals as goal

pub returns : goal.returns
returns c = first_variables
