use Rattle.std.proofs.Common.{sym, ◌∙◌}
use Rattle.isle_lsp.proofs.Talks.{ends, failed}
use Rattle.isle_lsp.proofs.Words.{failure_told, not_two, some_status}
use Rattle.isle_lsp.proofs.conversation.converse.Goals as goal

pub returns-in-Ok-clause-told : goal.returns-in-Ok-clause-told
returns-in-Ok-clause-told g c = λ world e m. ends world c.in-Ok.state _ _ _ _ (c.in-Ok.ensures.ok world e m) (c.in-Ok.ensures.over world e m) c.end_status.ensures.state

pub returns-in-Err-clause-told : goal.returns-in-Err-clause-told
returns-in-Err-clause-told g c = λ world e m. failed world c.in-Err.failure _ _ _ _ c.report.ensures.status (c.in-Err.ensures.err world e m)

pub returns-in-Err-clause-no_usage : goal.returns-in-Err-clause-no_usage
returns-in-Err-clause-no_usage g c = λ two. not_two c.in-Err.failure c.in-Err.ensures.kind (sym c.report.ensures.status ∙ two)

pub returns-in-Err-clause-quiet : goal.returns-in-Err-clause-quiet
returns-in-Err-clause-quiet g c = λ zero. absurd (some_status c.in-Err.failure (sym c.report.ensures.status ∙ zero))

pub returns-in-Err-clause-reason : goal.returns-in-Err-clause-reason
returns-in-Err-clause-reason g c = λ past. failure_told c.in-Err.failure _ _ _ c.report.ensures.status c.report.ensures.text
