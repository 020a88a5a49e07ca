use Rattle.std.proofs.Common.{[], ◌∙◌}
use Rattle.isle_base.specs.Token.{fault}
use Rattle.isle_lsp_context.proofs.Firsts.{no_parameters}
use Rattle.isle_lsp_context.proofs.parameters.parameters.Goals as goal

pub returns-in-None : goal.returns-in-None
returns-in-None c =
    let refused = rw c.in-None.is at c.in_ok-scanner.ensures in
    record { tokens = []; ending = fault refused.0; lexed = refused.1; are = c.new.ensures.items ∙ no_parameters c.args.is_variant }
