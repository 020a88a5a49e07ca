use Rattle.isle_index_laws.proofs.scopes.Binders.{unknown_variables}
use Rattle.isle_index_laws.proofs.scopes.laws.unknown_variables_are_reads_without_a_binder.Goals as goal

pub returns : goal.returns
returns c = unknown_variables
