use Rattle.isle_index_laws.proofs.FreshTexts.{fresh_accepted}
use Rattle.isle_index_laws.proofs.names.fresh_texts_are_accepted.Goals as goal

pub returns : goal.returns
returns c = fresh_accepted
