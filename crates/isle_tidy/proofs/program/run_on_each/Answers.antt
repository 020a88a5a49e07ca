use Rattle.isle_tidy.proofs.NameLemmas.{names-done, names-some, one-name-on}
use Rattle.isle_tidy.proofs.program.run_on_each.Goals as goal

pub loop-name-preserved : goal.loop-name-preserved
loop-name-preserved g c =
    one-name-on c.args.task.now.program.now c.args.task.now.listing c.args.task.now.stdin_name.now c.args.names.now c.loop-name.name-index c.name-item.result
    c.loop-name.status c.run_on_name-done.result c.max-status.result _ _ _ _ _ _ _ _ _ c.loop-name-test.true c.name-item.is c.loop-name.invariant
    (rw c.as_str.ensures.value at c.run_on_name-done.ensures) c.max-status.ensures

pub returns-then-is_over : goal.returns-then-is_over
returns-then-is_over g c =
    names-some c.args.task.now.program.now c.args.task.now.listing c.args.task.now.stdin_name.now c.args.names.now c.loop-name.name-index c.loop-name.status _ _ _ _ _ _
    (c.is_over.ensures.listed c.if-is_over.true) (c.is_over.ensures.cut c.if-is_over.true) c.loop-name.invariant

pub returns : goal.returns
returns g c =
    names-done c.args.task.now.program.now c.args.task.now.listing c.args.task.now.stdin_name.now c.args.names.now c.loop-name.name-index c.loop-name.status _ _ _ _ _ _
    c.loop-name-test.false c.loop-name.invariant
