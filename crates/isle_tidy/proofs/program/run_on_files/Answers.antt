use Rattle.std.proofs.Common.{length, take}
use Rattle.isle_tidy.proofs.FileLemmas.{runs-done, runs-next, runs-one, runs-over}
use Rattle.isle_tidy.proofs.program.run_on_files.Goals as goal

pub loop-name-preserved : goal.loop-name-preserved
loop-name-preserved g c =
    runs-next c.args.task.now.listing c.args.names.now c.loop-name.name-index c.loop-name.status c.run_on_file-done.result c.max-status.result _ _ _ _ _ _ c.loop-name-test.true
    c.loop-name.invariant (runs-one c.args.task.now.listing c.run_on_file-done.result _ _ _ _ c.run_on_file-done.ensures) c.max-status.ensures

pub returns-then-is_over : goal.returns-then-is_over
returns-then-is_over g c =
    runs-over c.args.task.now.listing (length (take c.loop-name.name-index c.args.names.now)) (length c.args.names.now) c.loop-name.status _ _ _ _
    (c.is_over.ensures.listed c.if-is_over.true) (c.is_over.ensures.cut c.if-is_over.true) c.loop-name.invariant

pub returns : goal.returns
returns g c = runs-done c.args.task.now.listing c.args.names.now c.loop-name.name-index c.loop-name.status _ _ _ _ c.loop-name-test.false c.loop-name.invariant
