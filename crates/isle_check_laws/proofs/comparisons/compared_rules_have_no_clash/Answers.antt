use Rattle.isle_check_laws.proofs.ComparedLaws.{clear_law}
use Rattle.isle_check_laws.proofs.comparisons.compared_rules_have_no_clash.Goals as goal

pub returns : goal.returns
returns c = clear_law
