use Rattle.isle_tidy.proofs.StreamLemmas.{input-ends, input-missed}
use Rattle.isle_tidy.proofs.program.run_on_input.Goals as goal

pub returns-in-Ok : goal.returns-in-Ok
returns-in-Ok g c =
    input-ends c.args.task.now.program.now c.args.task.now.listing c.args.task.now.stdin_name.now _ _ _ c.run_on_given.result _ _ _ _
    (rw c.as_str.ensures.value c.in-Ok.ensures.consumed) c.in-Ok.ensures.ended c.as_str.utf8 c.run_on_given.ensures

pub returns-in-Err : goal.returns-in-Err
returns-in-Err g c =
    input-missed c.args.task.now.program.now c.args.task.now.listing c.args.task.now.stdin_name.now _ _ c.in-Err.fault c.report_unread_input.result _ _ _ c.in-Err.ensures.fault
    c.report_unread_input.ensures.statuses c.report_unread_input.ensures.missed c.report_unread_input.ensures.starved
