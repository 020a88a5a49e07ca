use Rattle.isle_index_laws.proofs.Renamings.{renaming_writable}
use Rattle.isle_index_laws.proofs.laws.renamed_definitions_are_writable.Goals as goal

pub returns : goal.returns
returns c = renaming_writable
