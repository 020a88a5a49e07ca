use Rattle.isle_check_rules.proofs.Keeping.{keeps-at}
use Rattle.isle_check_rules.proofs.laws.more_depth_changes_nothing.Goals as goal

pub returns : goal.returns
returns c = keeps-at
