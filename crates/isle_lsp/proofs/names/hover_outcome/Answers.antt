use Rattle.std.proofs.lemmas.Result.{IfOk-weaker}
use Rattle.isle_lsp_protocol.specs.Replies.{outcome_of}
use Rattle.isle_lsp.proofs.names.hover_outcome.Goals as goal

pub returns-clause-ok : goal.returns-clause-ok
returns-clause-ok c =
    IfOk-weaker c.with_type.result _ _ (λ outcome typed. (outcome_of c.in_ok-plain.plain, c.in_ok-plain.ensures.ok, typed)) c.with_type.ensures.ok
