use Rattle.std.proofs.lemmas.Result.{IfOk-weaker}
use Rattle.isle_lsp.proofs.Results.{named_result}
use Rattle.isle_lsp.proofs.server.outcome_in.Goals as goal

pub returns-in_default-clause-ok : goal.returns-in_default-clause-ok
returns-in_default-clause-ok c =
    IfOk-weaker c.name_outcome.result _ _
    (λ o n. named_result c.args.request _ _ _ _ c.in_default.not-Initialize c.in_default.not-Shutdown c.in_default.not-Document c.in_default.not-InlayHint c.in_default.not-CodeAction c.in_default.not-Hover c.in_default.not-Unknown n)
    c.name_outcome.ensures.ok
