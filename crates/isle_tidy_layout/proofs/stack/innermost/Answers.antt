use Rattle.isle_tidy_layout.proofs.Stacks.{top, last_one}
use Rattle.isle_tidy_layout.proofs.stack.innermost.Goals as goal

pub returns-clause-top : goal.returns-clause-top
returns-clause-top c = λ ls arguments s. top ls c.args.lists.now arguments _ s c.requires

pub returns-clause-last : goal.returns-clause-last
returns-clause-last c = last_one c.args.lists.now _
