use Rattle.std.proofs.Common.{◌≡◌, false, true, inl, inr, refl, ap}
use Rattle.isle_cli.specs.declared.failure.Failure.TheVariants.{Usage}
use Rattle.isle_lsp.specs.CommandLine.{is_no_help}
use Rattle.isle_lsp.proofs.Words.{asks_no_help, cut_why, error_usage, error_wrong, failure_told, no_failure, prints_help, prints_nothing, prints_version}
use Rattle.isle_lsp.proofs.program.inform.Goals as goal

pub returns-in-Ok-Help-clause-prints : goal.returns-in-Ok-Help-clause-prints
returns-in-Ok-Help-clause-prints g c =
    prints_help _ _ _ _ _ (record { flags = refl; settings = refl }) c.tell.ensures.statuses (rw c.in-Ok-Help.field-0-is at c.in-Ok-Help.ensures.ok) c.tell.ensures.done c.tell.ensures.cut

pub returns-in-Ok-Help-clause-usage : goal.returns-in-Ok-Help-clause-usage
returns-in-Ok-Help-clause-usage g c = λ two. absurd (no_failure _ c.tell.ensures.statuses (inl two))

pub returns-in-Ok-Help-clause-wrong : goal.returns-in-Ok-Help-clause-wrong
returns-in-Ok-Help-clause-wrong g c = λ wrong.
    let never : false ≡ true = asks_no_help _ _ _ (record { flags = refl; settings = refl }) (rw c.in-Ok-Help.field-0-is at c.in-Ok-Help.ensures.ok) wrong in
    absurd (cc)

pub returns-in-Ok-Help-clause-reason : goal.returns-in-Ok-Help-clause-reason
returns-in-Ok-Help-clause-reason g c = λ past. cut_why _ _ _ _ (refl, refl) c.tell.ensures.statuses c.tell.ensures.told past

pub returns-in-Ok-Version-clause-prints : goal.returns-in-Ok-Version-clause-prints
returns-in-Ok-Version-clause-prints g c =
    prints_version _ _ _ _ _ (record { flags = refl; settings = refl }) c.tell-in-Ok-Version.ensures.statuses (rw c.in-Ok-Version.field-0-is at c.in-Ok-Version.ensures.ok) c.tell-in-Ok-Version.ensures.done c.tell-in-Ok-Version.ensures.cut

pub returns-in-Ok-Version-clause-usage : goal.returns-in-Ok-Version-clause-usage
returns-in-Ok-Version-clause-usage g c = λ two. absurd (no_failure _ c.tell-in-Ok-Version.ensures.statuses (inl two))

pub returns-in-Ok-Version-clause-wrong : goal.returns-in-Ok-Version-clause-wrong
returns-in-Ok-Version-clause-wrong g c = λ wrong.
    let never : false ≡ true = asks_no_help _ _ _ (record { flags = refl; settings = refl }) (rw c.in-Ok-Version.field-0-is at c.in-Ok-Version.ensures.ok) wrong in
    absurd (cc)

pub returns-in-Ok-Version-clause-reason : goal.returns-in-Ok-Version-clause-reason
returns-in-Ok-Version-clause-reason g c = λ past. cut_why _ _ _ _ (refl, refl) c.tell-in-Ok-Version.ensures.statuses c.tell-in-Ok-Version.ensures.told past

pub returns-in-Ok-Work-clause-prints : goal.returns-in-Ok-Work-clause-prints
returns-in-Ok-Work-clause-prints g c = prints_nothing _ _ _ (inl c.report.ensures.status)

pub returns-in-Ok-Work-clause-usage : goal.returns-in-Ok-Work-clause-usage
returns-in-Ok-Work-clause-usage g c = λ two. (_, record { flags = refl; settings = refl }, ap is_no_help (rw c.in-Ok-Work.field-0-is at c.in-Ok-Work.ensures.ok))

pub returns-in-Ok-Work-clause-wrong : goal.returns-in-Ok-Work-clause-wrong
returns-in-Ok-Work-clause-wrong g c = λ wrong. inr (c.report.ensures.status, c.report.ensures.text)

pub returns-in-Ok-Work-clause-reason : goal.returns-in-Ok-Work-clause-reason
returns-in-Ok-Work-clause-reason g c = λ past. failure_told Usage _ _ _ c.report.ensures.status c.report.ensures.text

pub returns-clause-usage : goal.returns-clause-usage
returns-clause-usage g c = λ two. error_usage _ _ c.in-Err.failure _ (record { flags = refl; settings = refl }) c.in-Err.ensures.err c.report-in-Err.ensures.status two

pub returns-clause-wrong : goal.returns-clause-wrong
returns-clause-wrong g c = λ wrong. error_wrong _ _ c.in-Err.failure _ _ _ c.in-Err.ensures.err c.report-in-Err.ensures.status c.report-in-Err.ensures.text

pub returns-clause-reason : goal.returns-clause-reason
returns-clause-reason g c = λ past. failure_told c.in-Err.failure _ _ _ c.report-in-Err.ensures.status c.report-in-Err.ensures.text
