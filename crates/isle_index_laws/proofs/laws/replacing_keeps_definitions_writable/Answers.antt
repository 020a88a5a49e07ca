use Rattle.isle_index_laws.proofs.Renamings.{replacing_writable}
use Rattle.isle_index_laws.proofs.laws.replacing_keeps_definitions_writable.Goals as goal

pub returns : goal.returns
returns c = replacing_writable
