use Rattle.isle_tidy.proofs.StreamLemmas.{text-done, text-fails, text-listed}
use Rattle.isle_tidy.proofs.program.run_on_given.Goals as goal

pub returns-in-Ok-true : goal.returns-in-Ok-true
returns-in-Ok-true g c = text-done c.args.task.now.program.now c.args.task.now.listing c.args.task.now.stdin_name.now c.args.text.now _ _ _ _ c.in-Ok-true.field-0-test c.in-Ok-true.ensures.ok

pub returns-in-Ok-false : goal.returns-in-Ok-false
returns-in-Ok-false g c = text-listed c.args.task.now.program.now c.args.task.now.listing c.args.task.now.stdin_name.now c.args.text.now _ _ _ _ c.in-Ok-false.field-0-test c.in-Ok-false.ensures.ok

pub returns-in-Err : goal.returns-in-Err
returns-in-Err g c =
    text-fails c.args.task.now.program.now c.args.task.now.listing c.args.task.now.stdin_name.now c.args.text.now c.report.result c.in-Err.failure _ _ _ _ c.in-Err.ensures.err c.report.ensures.text c.report.ensures.status
