use Rattle.isle_tidy_core.proofs.Again.{lexemes_stay, breaks_stay}
use Rattle.isle_tidy_core.proofs.laws.lexemes_and_lines_stay.Goals as goal

pub returns-clause-same_lexemes : goal.returns-clause-same_lexemes
returns-clause-same_lexemes c = lexemes_stay

pub returns-clause-same_lines : goal.returns-clause-same_lines
returns-clause-same_lines c = breaks_stay
