use Rattle.std.proofs.Common.{arith, ◌+◌, length, ap, Ok, ◌∙◌, length-append}
use Rattle.isle_lsp_frames.proofs.Lines.{closes, ends, goes_on, no_lf, too_long}
use Rattle.isle_lsp_frames.proofs.frames.read_line.Goals as goal

pub returns-in_default-clause-ok : goal.returns-in_default-clause-ok
returns-in_default-clause-ok g c = λ bytes e.
    let i = c.loop.invariant in
    ends bytes _ _ _ (i.read bytes e) (omega (arith, i.count, c.loop-test.true)) (c.in_ok-byte.ensures.none (ap Ok c.in_default.is)) (rw c.in_default.is at c.in_ok-byte.ensures.some)

pub returns-then-byte-eq10-clause-ok : goal.returns-then-byte-eq10-clause-ok
returns-then-byte-eq10-clause-ok g c = λ bytes e.
    let i = c.loop.invariant in
    let read = rw c.in-Some.is at c.in_ok-byte.ensures.some in
    rw c.in_ok-push.ensures.items (closes bytes _ _ _ (i.read bytes e) c.in-Some.byte read (omega (arith, i.count, c.loop-test.true)) c.if-byte-eq10.true)

pub loop-preserved : goal.loop-preserved
loop-preserved g c =
    let i = c.loop.invariant in
    let read = rw c.in-Some.is at c.in_ok-byte.ensures.some in
    record {
      read = λ bytes e. rw c.in_ok-push.ensures.items (goes_on bytes _ _ _ (i.read bytes e) c.in-Some.byte read (no_lf _ c.if-byte-eq10.false));
      count = ap length c.in_ok-push.ensures.items ∙ length-append c.loop.line.items _ ∙ ap (λ n. n + 1) i.count;
    }

pub returns-clause-ok : goal.returns-clause-ok
returns-clause-ok g c = λ bytes e.
    let i = c.loop.invariant in
    too_long bytes _ _ (i.read bytes e) (omega (arith, i.count, c.loop-test.false))
