use Rattle.std.proofs.Common.{Ok, ap}
use Rattle.std.proofs.lemmas.Result.{err_from_is_err_and}
use Rattle.isle_syntax.proofs.ReadingLaw.{loop_is_refused, loop_never_failed, loop_reads_nothing, loop_reads_one, loop_reads_tree, read_takes}
use Rattle.isle_syntax.proofs.trees.read_all.Goals as goal

pub loop-init : goal.loop-init
loop-init c = loop_reads_nothing c.args.parser.now c.requires.ready

pub returns-in_err-read_next-clause-spelt : goal.returns-in_err-read_next-clause-spelt
returns-in_err-read_next-clause-spelt c text s =
    let p = err_from_is_err_and c.from_residual.result c.from_residual.ensures.1 in
    rw p.1 tt

pub returns-in_err-read_next-clause-refused : goal.returns-in_err-read_next-clause-refused
returns-in_err-read_next-clause-refused c text s =
    let p = err_from_is_err_and c.from_residual.result c.from_residual.ensures.1 in
    rw (p.1, p.2) (loop_is_refused text c.args.parser.now c.loop.parser c.in_err-read_next.field-0.0 s c.loop.invariant c.in_err-read_next.ensures.failed c.in_err-read_next.ensures.refused)

pub returns-in_err-read_next-clause-never_failed : goal.returns-in_err-read_next-clause-never_failed
returns-in_err-read_next-clause-never_failed c =
    let p = err_from_is_err_and c.from_residual.result c.from_residual.ensures.1 in
    rw (p.1, p.2) (loop_never_failed c.args.parser.now c.loop.parser c.in_err-read_next.field-0.0 c.loop.invariant c.in_err-read_next.ensures.failed)

pub loop-smaller : goal.loop-smaller
loop-smaller c = read_takes c.loop.parser c.read_next.new.parser (c.in_ok-read_next.ensures.read (ap Ok c.if-branch.true))

pub loop-preserved : goal.loop-preserved
loop-preserved c =
    loop_reads_one c.args.parser.now c.loop.parser c.read_next.new.parser c.loop.invariant (c.in_ok-read_next.ensures.read (ap Ok c.if-branch.true))

pub returns-clause-spelt : goal.returns-clause-spelt
returns-clause-spelt c text s =
    loop_reads_tree text c.args.parser.now c.loop.parser c.read_next.new.parser s c.loop.invariant (c.in_ok-read_next.ensures.done (ap Ok c.if-branch.false))
