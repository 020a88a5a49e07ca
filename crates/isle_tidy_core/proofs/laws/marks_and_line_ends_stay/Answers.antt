use Rattle.isle_tidy_core.proofs.TidyTexts.{tidy_line_ends, tidy_mark}
use Rattle.isle_tidy_core.proofs.laws.marks_and_line_ends_stay.Goals as goal

pub returns-clause-mark : goal.returns-clause-mark
returns-clause-mark c = tidy_mark

pub returns-clause-line_ends : goal.returns-clause-line_ends
returns-clause-line_ends c = tidy_line_ends
