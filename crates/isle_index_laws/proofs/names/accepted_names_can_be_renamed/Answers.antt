use Rattle.isle_index_laws.proofs.Fits.{accepted_can_be}
use Rattle.isle_index_laws.proofs.names.accepted_names_can_be_renamed.Goals as goal

pub returns : goal.returns
returns c = accepted_can_be
