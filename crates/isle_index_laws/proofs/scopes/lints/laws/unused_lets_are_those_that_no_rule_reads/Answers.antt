use Rattle.isle_index_laws.proofs.scopes.lints.Unread.{unread_lets}
use Rattle.isle_index_laws.proofs.scopes.lints.laws.unused_lets_are_those_that_no_rule_reads.Goals as goal

pub returns : goal.returns
returns c = unread_lets
