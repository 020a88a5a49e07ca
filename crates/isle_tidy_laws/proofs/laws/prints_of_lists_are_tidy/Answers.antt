use Rattle.isle_tidy_laws.proofs.PrintDocuments.{print_tidy}
use Rattle.isle_tidy_laws.proofs.laws.prints_of_lists_are_tidy.Goals as goal

pub returns : goal.returns
returns c = print_tidy
