use Rattle.std.proofs.Common.{sym, ◌∙◌}
use Rattle.isle_lsp.proofs.Words.{failure_told, not_two, refused_not_usage, some_status}
use Rattle.isle_lsp.proofs.conversation.report_end.Goals as goal

pub returns-clause-no_usage : goal.returns-clause-no_usage
returns-clause-no_usage g c = λ two. not_two c.refusal.result (refused_not_usage _ c.refusal.ensures) (sym c.report.ensures.status ∙ two)

pub returns-clause-early : goal.returns-clause-early
returns-clause-early g c = (c.refusal.result, c.refusal.ensures, c.report.ensures.status)

pub returns-clause-quiet : goal.returns-clause-quiet
returns-clause-quiet g c = λ zero. absurd (some_status c.refusal.result (sym c.report.ensures.status ∙ zero))

pub returns-clause-reason : goal.returns-clause-reason
returns-clause-reason g c = λ past. failure_told c.refusal.result _ _ _ c.report.ensures.status c.report.ensures.text
