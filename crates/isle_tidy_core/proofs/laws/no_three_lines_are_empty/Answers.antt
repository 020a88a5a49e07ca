use Rattle.isle_tidy_core.proofs.TidyTexts.{tidy_few_lines}
use Rattle.isle_tidy_core.proofs.laws.no_three_lines_are_empty.Goals as goal

pub returns : goal.returns
returns c = tidy_few_lines
