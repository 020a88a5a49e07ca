use Rattle.std.proofs.Common.{[], sym, subst, string_bytes}
use Rattle.serde_json.specs.View.{view}
use Rattle.isle_lsp_protocol.proofs.Readings.{is_text}
use Rattle.isle_lsp_protocol.specs.Items.{list_data}
use Rattle.isle_lsp_protocol.specs.Replies.{response}
use Rattle.isle_lsp_protocol.specs.Written.{Adds}
use Rattle.isle_lsp_protocol.proofs.replies.list_response.Goals as goal

pub returns : goal.returns
returns c = λ is_id.
    let d = response (view c.args.id.now) (list_data c.args.are_changes c.args.items.now) in
    let adds = subst (λ ts. Adds d ts c.put_response.new.out.tokens) c.new-out.ensures.tokens (c.in_ok-put_response.ensures.adds is_id) in
    is_text d (string_bytes c.into_text.result) (subst (Adds d []) (sym c.into_text.ensures) adds)
