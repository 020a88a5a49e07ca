use Rattle.std.proofs.Common.{arith, sym}
use Rattle.isle_lsp_frames.proofs.Heads.{reads_start, blank_gives, more_gives, bad_gives, none_left, fails_so}
use Rattle.isle_lsp_frames.proofs.Whole.{exit_gives, fails_broken}
use Rattle.isle_lsp_frames.proofs.frames.read_head.Goals as goal

pub loop-init : goal.loop-init
loop-init g c = λ bytes e. reads_start bytes _ e

pub returns : goal.returns
returns g c = λ bytes e. none_left bytes _ _ _ (omega arith) (c.loop.invariant bytes e)

pub returns-in_err-line : goal.returns-in_err-line
returns-in_err-line g c = λ bytes e.
    exit_gives _ _ _ c.in_err-line.field-0.0 _ c.from_residual.ensures.1 (fails_broken _ _ c.in_err-line.ensures.err)

pub loop-preserved : goal.loop-preserved
loop-preserved g c = λ bytes e.
    let v = c.as_slice-text.ensures.value in
    let b = sym (rw v at c.if-is_blank.ensures) in
    let h = rw v at c.in_ok-known.ensures in
    more_gives bytes _ _ _ _ _ (c.loop.invariant bytes e) c.loop-test.true c.in_ok-line.ensures.ok _ b h

pub returns-in_err-known : goal.returns-in_err-known
returns-in_err-known g c = λ bytes e.
    let v = c.as_slice-text.ensures.value in
    let b = sym (rw v at c.if-is_blank.ensures) in
    let h = rw v at c.in_err-known.ensures in
    exit_gives _ _ _ c.in_err-known.field-0.0 _ c.from_residual-in_err-known.ensures.1
    (fails_so _ _ (bad_gives bytes _ _ _ _ _ (c.loop.invariant bytes e) c.loop-test.true c.in_ok-line.ensures.ok _ b h))

pub returns-then-is_blank : goal.returns-then-is_blank
returns-then-is_blank g c = λ bytes e.
    let v = c.as_slice-text.ensures.value in
    let b = sym (rw v at c.if-is_blank.ensures) in
    let w = blank_gives bytes _ _ _ _ _ (c.loop.invariant bytes e) c.loop-test.true c.in_ok-line.ensures.ok b in
    rw c.in-Some.is at w

pub returns-in_default : goal.returns-in_default
returns-in_default g c = λ bytes e.
    let v = c.as_slice-text.ensures.value in
    let b = sym (rw v at c.if-is_blank.ensures) in
    let w = blank_gives bytes _ _ _ _ _ (c.loop.invariant bytes e) c.loop-test.true c.in_ok-line.ensures.ok b in
    (rw c.in_default.is at w).2
