use Rattle.isle_check_laws.proofs.ComparisonLaws.{apart_law}
use Rattle.isle_check_laws.proofs.comparisons.constraints_are_apart_if_no_valuation_satisfies_both.Goals as goal

pub returns : goal.returns
returns c = apart_law
