use Rattle.std.proofs.Common.{◌∙◌}
use Rattle.isle_ast_verification.proofs.Same.SpecLists.{names_compared}
use Rattle.isle_ast_verification.proofs.compare.specs.same_names.Goals as goal

pub returns : goal.returns
returns c = c.eq.ensures ∙ names_compared c.args.names.now.items c.args.others.now.items
