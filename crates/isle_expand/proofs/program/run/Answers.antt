use Rattle.std.proofs.Common.{refl}
use Rattle.isle_cli.proofs.FailureLemmas.{first-told-text}
use Rattle.isle_expand.proofs.WordLemmas.{asked-told, past-two, words-told-here}
use Rattle.isle_expand.proofs.program.run.Goals as goal

pub returns-in-Ok-Help-clause-told : goal.returns-in-Ok-Help-clause-told
returns-in-Ok-Help-clause-told g c =
    λ two three.
    let is = rw c.in-Ok-Help.field-0-is at c.in-Ok-Help.ensures.ok in
    asked-told c.this_program-program.result c.own_options-options.result _ _ c.tell.result _ _ c.this_program-program.ensures c.own_options-options.ensures is
    (c.tell.ensures.told (past-two c.tell.result c.tell.ensures.statuses two))

pub returns-in-Ok-Version-clause-told : goal.returns-in-Ok-Version-clause-told
returns-in-Ok-Version-clause-told g c =
    λ two three.
    let is = rw c.in-Ok-Version.field-0-is at c.in-Ok-Version.ensures.ok in
    asked-told c.this_program-program.result c.own_options-options.result _ _ c.tell-in-Ok-Version.result _ _ c.this_program-program.ensures c.own_options-options.ensures is
    (c.tell-in-Ok-Version.ensures.told (past-two c.tell-in-Ok-Version.result c.tell-in-Ok-Version.ensures.statuses two))

pub returns-in-Err-clause-told : goal.returns-in-Err-clause-told
returns-in-Err-clause-told g c =
    λ two three.
    words-told-here c.this_program-program.result c.own_options-options.result _ _ c.in-Err.failure c.report_words.result _ _ c.this_program-program.ensures c.own_options-options.ensures (record { flags = refl; settings = refl })
    c.in-Err.ensures.err c.report_words.ensures.status c.report_words.ensures.text

pub returns-clause-told : goal.returns-clause-told
returns-clause-told g c =
    λ two three.
    let is = rw c.in-Ok-Work.field-0-is at c.in-Ok-Work.ensures.ok in
    let told = first-told-text c.this_program-program.result _ c.in-Err-expand.failure _ _ _ c.in-Err-expand.ensures.quiet c.report.ensures.text c.report.ensures.status in
    asked-told c.this_program-program.result c.own_options-options.result _ _ _ _ _ c.this_program-program.ensures c.own_options-options.ensures is told
