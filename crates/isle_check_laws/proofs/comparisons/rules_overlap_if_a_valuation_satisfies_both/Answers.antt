use Rattle.isle_check_laws.proofs.ComparedLaws.{overlap_meaning}
use Rattle.isle_check_laws.proofs.comparisons.rules_overlap_if_a_valuation_satisfies_both.Goals as goal

pub returns : goal.returns
returns c = overlap_meaning
