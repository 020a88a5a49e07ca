use Rattle.isle_tidy_core.proofs.TidyTexts.{tidy_again}
use Rattle.isle_tidy_core.proofs.laws.tidying_again_changes_nothing.Goals as goal

pub returns : goal.returns
returns c = tidy_again
