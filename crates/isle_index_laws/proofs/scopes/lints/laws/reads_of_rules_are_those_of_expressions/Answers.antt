use Rattle.isle_index_laws.proofs.scopes.lints.Rules.{expressions_read}
use Rattle.isle_index_laws.proofs.scopes.lints.laws.reads_of_rules_are_those_of_expressions.Goals as goal

pub returns : goal.returns
returns c = expressions_read
