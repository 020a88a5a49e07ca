use Rattle.isle_tidy.proofs.FileLemmas.{unread-ends}
use Rattle.isle_tidy.proofs.program.run_on_file.Goals as goal

pub returns-in-Err : goal.returns-in-Err
returns-in-Err g c = unread-ends c.args.task.now.listing c.report_unread.result _ _ _ c.report_unread.ensures.statuses
