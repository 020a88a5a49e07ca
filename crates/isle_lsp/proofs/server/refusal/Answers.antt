use Rattle.std.proofs.Common.{option_map, string_bytes}
use Rattle.std.proofs.lemmas.Result.{IfOk-weaker}
use Rattle.serde_json.specs.View.{view}
use Rattle.isle_lsp_protocol.specs.Replies.{IsTextOf, error_response}
use Rattle.isle_lsp.proofs.Depths.{rejection_reads}
use Rattle.isle_lsp.proofs.server.refusal.Goals as goal

pub returns : goal.returns
returns c =
    let message = option_map view c.args.message.now in
    IfOk-weaker c.error_response.result _ _
    (λ text is. rejection_reads message c.args.code c.args.reason.now (string_bytes text) (rw c.in_ok-id.ensures.same at is))
    c.error_response.ensures
