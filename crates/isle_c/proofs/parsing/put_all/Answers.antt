use Rattle.std.proofs.Common.{Ok, ap, string_bytes}
use Rattle.std.proofs.lemmas.Result.{err_from_is_err_and}
use Rattle.isle_c.proofs.ParsingLaw.{all_put, never_failed, nothing_put, one_more_put, put_takes, refused_next}
use Rattle.isle_c.proofs.parsing.put_all.Goals as goal

pub loop-init : goal.loop-init
loop-init c = nothing_put c.args.parser.now (string_bytes c.args.answer.now) c.requires.ready

pub returns-in_err-put_next-clause-put : goal.returns-in_err-put_next-clause-put
returns-in_err-put_next-clause-put c file text s =
    let p = err_from_is_err_and c.from_residual.result c.from_residual.ensures.1 in
    rw p.1 tt

pub returns-in_err-put_next-clause-refused : goal.returns-in_err-put_next-clause-refused
returns-in_err-put_next-clause-refused c file text s =
    let p = err_from_is_err_and c.from_residual.result c.from_residual.ensures.1 in
    rw (p.1, p.2)
    (refused_next file text (string_bytes c.args.answer.now) (string_bytes c.loop.answer)
    c.args.parser.now c.loop.parser c.in_err-put_next.field-0.0 s c.loop.invariant
    c.in_err-put_next.ensures.failed c.in_err-put_next.ensures.refused)

pub returns-in_err-put_next-clause-never_failed : goal.returns-in_err-put_next-clause-never_failed
returns-in_err-put_next-clause-never_failed c =
    let p = err_from_is_err_and c.from_residual.result c.from_residual.ensures.1 in
    rw (p.1, p.2) (never_failed c.args.parser.now c.loop.parser (string_bytes c.args.answer.now) (string_bytes c.loop.answer) c.in_err-put_next.field-0.0 c.loop.invariant c.in_err-put_next.ensures.failed)

pub loop-smaller : goal.loop-smaller
loop-smaller c =
    put_takes c.loop.parser c.put_next.new.parser (string_bytes c.loop.answer) (string_bytes c.put_next.new.answer) (c.in_ok-put_next.ensures.put (ap Ok c.if-branch.true))

pub loop-preserved : goal.loop-preserved
loop-preserved c =
    one_more_put c.args.parser.now c.loop.parser c.put_next.new.parser (string_bytes c.args.answer.now) (string_bytes c.loop.answer) (string_bytes c.put_next.new.answer) c.loop.invariant (c.in_ok-put_next.ensures.put (ap Ok c.if-branch.true))

pub returns-clause-put : goal.returns-clause-put
returns-clause-put c file text s =
    all_put file text
    (string_bytes c.args.answer.now) (string_bytes c.loop.answer) (string_bytes c.put_next.new.answer)
    c.args.parser.now c.loop.parser c.put_next.new.parser s c.loop.invariant
    (c.in_ok-put_next.ensures.done (ap Ok c.if-branch.false))
    (c.in_ok-put_next.ensures.kept (ap Ok c.if-branch.false))
