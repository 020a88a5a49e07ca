use Rattle.isle_tidy_layout.proofs.Again.{placed_again}
use Rattle.isle_tidy_layout.proofs.laws.placed_again.Goals as goal

pub returns : goal.returns
returns c = placed_again
