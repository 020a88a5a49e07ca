use Rattle.isle_tidy.proofs.FileLemmas.{ends-none, failed-ends, listed-as}
use Rattle.isle_tidy.proofs.program.run_on_text.Goals as goal

pub returns-in-None : goal.returns-in-None
returns-in-None g c = ends-none c.args.task.now.listing _ _

pub returns-in-Some : goal.returns-in-Some
returns-in-Some g c = listed-as c.args.task.now.listing c.in-Some.listing c.listed.result _ _ _ _ c.in-Some.is c.listed.ensures

pub returns-in-Ok-false : goal.returns-in-Ok-false
returns-in-Ok-false g c = ends-none c.args.task.now.listing _ _

pub returns-in-Err : goal.returns-in-Err
returns-in-Err g c = failed-ends c.args.task.now.listing c.in-Err.failure c.report_on_file.result _ _ _ c.in-Err.ensures.failed c.report_on_file.ensures
