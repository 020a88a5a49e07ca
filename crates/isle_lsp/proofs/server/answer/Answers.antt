use Rattle.std.proofs.Common.{option_map, string_bytes, subst}
use Rattle.serde_json.specs.View.{view}
use Rattle.isle_lsp_files.specs.Disks.{view_of}
use Rattle.isle_lsp_protocol.specs.Replies.{IsTextOf, outcome_of, reply}
use Rattle.isle_lsp.specs.Serving.{held_of}
use Rattle.isle_lsp.proofs.Depths.{reply_reads}
use Rattle.isle_lsp.proofs.server.answer.Goals as goal

pub returns-clause-ok : goal.returns-clause-ok
returns-clause-ok c = λ shallow.
    let message = option_map view c.args.message.now in
    let o = outcome_of c.in_ok-outcome.outcome in
    let text = string_bytes c.in_ok-text.text in
    let result = c.in_ok-outcome.ensures.ok in (
      o,
      result,
      reply_reads c.args.request message (held_of c.args.server.now) (view_of c.args.shown.now) o text shallow result
          (subst (λ id. IsTextOf (reply id o) text) c.in_ok-id.ensures.same (c.in_ok-text.ensures c.in_ok-id.ensures.kind)),
    )
