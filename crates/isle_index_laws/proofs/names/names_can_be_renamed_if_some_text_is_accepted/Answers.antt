use Rattle.isle_index_laws.proofs.UnusedTexts.{some_accepted}
use Rattle.isle_index_laws.proofs.names.names_can_be_renamed_if_some_text_is_accepted.Goals as goal

pub returns : goal.returns
returns c = some_accepted
