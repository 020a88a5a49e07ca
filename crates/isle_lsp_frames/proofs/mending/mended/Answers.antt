use Rattle.std.proofs.Common.{◌++◌, ap, ◌∙◌, append_assoc, sym}
use Rattle.isle_lsp_frames.proofs.Mendings.{mended_short, mended_step, run_kept}
use Rattle.isle_lsp_frames.proofs.mending.mended.Goals as goal

pub loop-rest-preserved-then-run-gt0 : goal.loop-rest-preserved-then-run-gt0
loop-rest-preserved-then-run-gt0 c =
    let old = c.loop-rest.mended.items in
    let kept = run_kept c.loop-rest.paired c.run_len-run.result c.loop-rest.rest.now c.if-run-gt0.true c.run_len-run.ensures.within c.run_len-run.ensures.clean in
    rw (c.in_ok-extend_from_slice.ensures.items, c.split_at.ensures.back)
    (c.loop-rest.invariant ∙ ap (λ l. old ++ l) kept ∙ sym (append_assoc old _ _))

pub loop-rest-preserved : goal.loop-rest-preserved
loop-rest-preserved c =
    let old = c.loop-rest.mended.items in
    rw (c.in_ok-extend_from_slice-2.ensures.items, c.mended_front.ensures, c.is_high-paired.ensures, c.split_at-else-run-gt0.ensures.back, c.front_len.ensures.value)
    (c.loop-rest.invariant ∙ ap (λ l. old ++ l) (mended_step c.loop-rest.paired c.loop-rest.rest.now c.loop-rest-test.true) ∙ sym (append_assoc old _ _))

pub returns : goal.returns
returns c =
    let old = c.loop-rest.mended.items in
    c.in_ok-extend_from_slice-3.ensures.items ∙ sym (c.loop-rest.invariant ∙ ap (λ l. old ++ l) (mended_short c.loop-rest.paired c.loop-rest.rest.now c.loop-rest-test.false))
