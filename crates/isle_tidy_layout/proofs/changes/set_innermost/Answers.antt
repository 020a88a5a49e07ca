use Rattle.std.proofs.Common.{◌∙◌}
use Rattle.isle_tidy_layout.proofs.Stacks.{set_last}
use Rattle.isle_tidy_layout.proofs.changes.set_innermost.Goals as goal

pub returns : goal.returns
returns c = λ below o e. set_last below o c.args.list c.args.lists.now.items c.len-last.result e (c.len-last.ensures ∙ c.args.lists.now.ok.0)
