use Rattle.isle_tidy_laws.proofs.Indented.{tidy_lines_fit}
use Rattle.isle_tidy_laws.proofs.laws.lines_of_a_list_have_one_column.Goals as goal

pub returns : goal.returns
returns c = tidy_lines_fit
