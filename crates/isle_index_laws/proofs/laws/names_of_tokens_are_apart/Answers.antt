use Rattle.isle_index_laws.proofs.RenamedTokens.{names_apart}
use Rattle.isle_index_laws.proofs.laws.names_of_tokens_are_apart.Goals as goal

pub returns : goal.returns
returns c = names_apart
