use Rattle.std.proofs.Common.{sym}
use Rattle.isle_tidy_layout.proofs.Stacks.{line_there, line_none}
use Rattle.isle_tidy_layout.proofs.stack.line_of.Goals as goal

pub returns-then-inner-lists : goal.returns-then-inner-lists
returns-then-inner-lists c = λ ls arguments s. line_there ls c.args.lists.now arguments c.args.inner _ s c.if-inner-lists.true

pub returns-else-inner-lists : goal.returns-else-inner-lists
returns-else-inner-lists c = λ ls arguments s. sym (line_none ls c.args.lists.now arguments c.args.inner s c.if-inner-lists.false)
