use Rattle.isle_index_laws.proofs.scopes.lints.Rules.{shadowing_variables}
use Rattle.isle_index_laws.proofs.scopes.lints.laws.shadowed_variables_hide_others.Goals as goal

pub returns : goal.returns
returns c = shadowing_variables
