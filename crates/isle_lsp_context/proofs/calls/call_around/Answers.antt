use Rattle.std.proofs.Common.{[]}
use Rattle.isle_base.specs.Token.{fault}
use Rattle.isle_lsp_context.proofs.Firsts.{none_at}
use Rattle.isle_lsp_context.proofs.calls.call_around.Goals as goal

pub returns-in-None : goal.returns-in-None
returns-in-None c =
    let refused = rw c.in-None.is at c.in_ok-scanner.ensures in
    record { tokens = []; ending = fault refused.0; lexed = refused.1; is = none_at c.args.text.now c.args.offset (fault refused.0) }
