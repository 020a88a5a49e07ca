use Rattle.isle_index_laws.proofs.scopes.lints.Finds.{findings_sought}
use Rattle.isle_index_laws.proofs.scopes.lints.laws.lints_find_what_they_look_for.Goals as goal

pub returns : goal.returns
returns c = findings_sought
