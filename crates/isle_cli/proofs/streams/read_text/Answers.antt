use Rattle.std.proofs.Common.{Ok, ap}
use Rattle.isle_cli.proofs.StreamLemmas.{Consumes-grown, broken_stream, no_text}
use Rattle.isle_cli.proofs.streams.read_text.Goals as goal

pub loop-preserved : goal.loop-preserved
loop-preserved g c =
    let more = c.in_ok-read_more.ensures in
    Consumes-grown _ _ _ _ _ more.grows c.loop.invariant more.consumed

pub returns-in_err-read_more-clause-fault : goal.returns-in_err-read_more-clause-fault
returns-in_err-read_more-clause-fault g c =
    broken_stream _ _ _ c.in_err-read_more.field-0.0 c.from_residual.ensures.1 c.in_err-read_more.ensures.broken

pub returns-then-not-branch-clause-fault : goal.returns-then-not-branch-clause-fault
returns-then-not-branch-clause-fault g c =
    let more = c.in_ok-read_more.ensures in
    let whole = Consumes-grown _ _ _ _ _ more.grows c.loop.invariant more.consumed in
    no_text _ _ _ c.text_of.result whole (more.ended (ap Ok c.if-not-branch.true)) c.text_of.ensures.not_utf8 c.text_of.ensures.err
