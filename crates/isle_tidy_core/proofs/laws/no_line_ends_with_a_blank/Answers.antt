use Rattle.isle_tidy_core.proofs.TidyTexts.{tidy_no_blank}
use Rattle.isle_tidy_core.proofs.laws.no_line_ends_with_a_blank.Goals as goal

pub returns : goal.returns
returns c = tidy_no_blank
