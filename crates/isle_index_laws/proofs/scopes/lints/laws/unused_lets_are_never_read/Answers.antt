use Rattle.isle_index_laws.proofs.scopes.lints.Rules.{unused_variables}
use Rattle.isle_index_laws.proofs.scopes.lints.laws.unused_lets_are_never_read.Goals as goal

pub returns : goal.returns
returns c = unused_variables
