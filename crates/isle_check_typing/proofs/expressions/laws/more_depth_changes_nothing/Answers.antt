use Rattle.isle_check_typing.proofs.expressions.Keeping.{keeps-at}
use Rattle.isle_check_typing.proofs.expressions.laws.more_depth_changes_nothing.Goals as goal

pub returns : goal.returns
returns c = keeps-at
