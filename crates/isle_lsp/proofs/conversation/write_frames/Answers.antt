use Rattle.std.proofs.Common.{◌+◌, ◌∷◌, ap, drop, sym, ◌∙◌}
use Rattle.std.proofs.lemmas.List.{drop_more}
use Rattle.std.proofs.lemmas.Result.{err_from_is_err_and}
use Rattle.isle_lsp.proofs.Talks.{written_more, written_none, written_part}
use Rattle.isle_lsp.proofs.conversation.write_frames.Goals as goal

pub loop-text-init : goal.loop-text-init
loop-text-init g c = written_none c.args.texts.now (g.W.Write.contents c.args.output.now)

pub loop-text-preserved : goal.loop-text-preserved
loop-text-preserved g c =
    let texts = c.args.texts.now in
    let i = c.loop-text.text-index in
    let text = c.text-item.result in
    let left = drop_more texts i text c.loop-text-test.true ∙ ap (λ q. q ∷ drop (i + 1) texts) (sym c.text-item.is) in
    written_more texts i text _ _ _ left c.loop-text.invariant (rw c.as_bytes.ensures.value at c.in_ok-write_frame.ensures.ok)

pub returns-in_err-write_frame-clause-part : goal.returns-in_err-write_frame-clause-part
returns-in_err-write_frame-clause-part g c =
    let texts = c.args.texts.now in
    let i = c.loop-text.text-index in
    let text = c.text-item.result in
    let left = drop_more texts i text c.loop-text-test.true ∙ ap (λ q. q ∷ drop (i + 1) texts) (sym c.text-item.is) in
    let p = err_from_is_err_and c.from_residual.result c.from_residual.ensures.1 in
    rw p.1 (written_part texts i text _ _ _ left c.loop-text.invariant (rw c.as_bytes.ensures.value at c.in_err-write_frame.ensures.part))
