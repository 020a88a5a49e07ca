use Rattle.isle_index_laws.proofs.scopes.lints.Patterns.{idle_variables}
use Rattle.isle_index_laws.proofs.scopes.lints.laws.unused_pattern_variables_are_never_read.Goals as goal

pub returns : goal.returns
returns c = idle_variables
