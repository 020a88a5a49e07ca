use Rattle.isle_tidy_layout.proofs.Prints.{prints_tidy}
use Rattle.isle_tidy_layout.proofs.laws.prints_stay.Goals as goal

pub returns : goal.returns
returns c = prints_tidy
