use Rattle.std.proofs.Common.{◌∙◌}
use Rattle.isle_ast_names.proofs.ListComparison.{count}
use Rattle.isle_index.proofs.Replacing.{count-is}
use Rattle.isle_index.proofs.Index.event_count.Goals as goal

pub returns : goal.returns
returns c = λ ds is. c.len.ensures ∙ count c.args.self.now.entries ∙ count-is ds c.args.self.now is
