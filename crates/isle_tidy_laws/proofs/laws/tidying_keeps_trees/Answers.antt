use Rattle.isle_tidy_laws.proofs.Trees.{tidying_keeps_trees}
use Rattle.isle_tidy_laws.proofs.laws.tidying_keeps_trees.Goals as goal

pub returns : goal.returns
returns c = tidying_keeps_trees
