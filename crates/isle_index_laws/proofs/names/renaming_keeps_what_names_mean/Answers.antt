use Rattle.isle_index_laws.proofs.Meanings.{renaming_keeps}
use Rattle.isle_index_laws.proofs.names.renaming_keeps_what_names_mean.Goals as goal

pub returns : goal.returns
returns c = renaming_keeps
