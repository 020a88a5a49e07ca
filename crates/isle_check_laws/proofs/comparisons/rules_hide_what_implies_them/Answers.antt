use Rattle.isle_check_laws.proofs.ComparedLaws.{hiding_meaning}
use Rattle.isle_check_laws.proofs.comparisons.rules_hide_what_implies_them.Goals as goal

pub returns : goal.returns
returns c = hiding_meaning
