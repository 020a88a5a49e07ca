use Rattle.isle_tidy_core.proofs.Matching.{inner_opened}
use Rattle.isle_tidy_core.proofs.parentheses.Parentheses.opened.Goals as goal

pub returns-in-Some : goal.returns-in-Some
returns-in-Some c = λ taken x h is place. inner_opened taken c.args.self x c.in-Some.depth h c.if-self-eq0.false c.in-Some.ensures.1 is
