use Rattle.isle_index_laws.proofs.KeptTrees.{definitions_kept}
use Rattle.isle_index_laws.proofs.laws.replaced_names_keep_definitions_writable.Goals as goal

pub returns : goal.returns
returns c = definitions_kept
