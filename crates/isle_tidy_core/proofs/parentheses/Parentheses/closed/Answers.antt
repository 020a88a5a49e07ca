use Rattle.isle_tidy_core.proofs.Matching.{one_closed}
use Rattle.isle_tidy_core.proofs.parentheses.Parentheses.closed.Goals as goal

pub returns-clause-some : goal.returns-clause-some
returns-clause-some c = λ taken x h is. one_closed taken c.args.self x h c.if-self-eq0.false is
