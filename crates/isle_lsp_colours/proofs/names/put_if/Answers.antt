use Rattle.std.proofs.Common.{slice_get}
use Rattle.isle_lsp_colours.proofs.Firsts.{none-merged}
use Rattle.isle_lsp_colours.proofs.names.put_if.Goals as goal

pub returns-in-None : goal.returns-in-None
returns-in-None c = λ offset. rw c.in-None.is (none-merged (slice_get c.args.classes.now offset))
