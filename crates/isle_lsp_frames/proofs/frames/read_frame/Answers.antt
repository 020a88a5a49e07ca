use Rattle.std.proofs.Common.{◌≡◌, ◌<◌, [], length, Some, Ok, Err, ◌∙◌, ap}
use Rattle.isle_lsp_frames.specs.Frames.{body_at}
use Rattle.isle_lsp_frames.specs.declared.frames.FrameFault.TheVariants.{TooLong}
use Rattle.isle_lsp_frames.proofs.Whole.{kept_some, consumed_some, exit_gives, body_long, body_ok, body_fails, frame_end, head_fails, frame_fails, frame_ok, fails_unreadable}
use Rattle.isle_lsp_frames.proofs.frames.read_frame.Goals as goal

pub returns-in_err-is_at_end : goal.returns-in_err-is_at_end
returns-in_err-is_at_end g c = λ bytes e.
    exit_gives _ _ _ c.in_err-is_at_end.field-0.0 _ c.from_residual.ensures.1 (fails_unreadable _ _ c.in_err-is_at_end.ensures.err)

pub returns-then-branch : goal.returns-then-branch
returns-then-branch g c = λ bytes e.
    let n = kept_some _ _ _ c.in_ok-is_at_end.ensures.kept e in
    let z : bytes ≡ [] = rw e at (c.in_ok-is_at_end.ensures.ended (ap Ok c.if-branch.true)) in
    ([], n ∙ ap Some z, frame_end bytes z)

pub returns-in_err-length : goal.returns-in_err-length
returns-in_err-length g c = λ bytes e.
    let n = kept_some _ _ _ c.in_ok-is_at_end.ensures.kept e in
    let pos : 0 < length bytes = rw e at (c.in_ok-is_at_end.ensures.more (ap Ok c.if-branch.false)) in
    exit_gives _ _ _ c.in_err-length.field-0.0 _ c.from_residual-in_err-length.ensures.1 (head_fails _ bytes pos (c.in_err-length.ensures bytes n))

pub returns-then-length-gt-MAX_LEN : goal.returns-then-length-gt-MAX_LEN
returns-then-length-gt-MAX_LEN g c = λ bytes e.
    let n = kept_some _ _ _ c.in_ok-is_at_end.ensures.kept e in
    let pos : 0 < length bytes = rw e at (c.in_ok-is_at_end.ensures.more (ap Ok c.if-branch.false)) in
    let w = c.in_ok-length.ensures bytes n in
    frame_fails TooLong _ bytes w.0 pos w.2 (body_long _ _ c.if-length-gt-MAX_LEN.true)

pub returns-in_err-body : goal.returns-in_err-body
returns-in_err-body g c = λ bytes e.
    let n = kept_some _ _ _ c.in_ok-is_at_end.ensures.kept e in
    let pos : 0 < length bytes = rw e at (c.in_ok-is_at_end.ensures.more (ap Ok c.if-branch.false)) in
    let w = c.in_ok-length.ensures bytes n in
    exit_gives _ _ _ c.in_err-body.field-0.0 _ c.from_residual-in_err-body.ensures.1
    (frame_fails _ _ bytes w.0 pos w.2 (body_fails _ _ w.0 (λ z. rw w.1 at (c.in_err-body.ensures.cut (ap Err z))) c.in_err-body.ensures.fault c.if-length-gt-MAX_LEN.false))

pub returns : goal.returns
returns g c = λ bytes e.
    let n = kept_some _ _ _ c.in_ok-is_at_end.ensures.kept e in
    let pos : 0 < length bytes = rw e at (c.in_ok-is_at_end.ensures.more (ap Ok c.if-branch.false)) in
    let w = c.in_ok-length.ensures bytes n in
    let r = consumed_some _ _ w.0 _ c.in_ok-body.ensures.ok.0 w.1 in
    (r.0, r.1, frame_ok _ bytes w.0 _ r.0 pos w.2 (ap (body_at c.in_ok-length.length) r.2 ∙ body_ok _ _ r.0 c.in_ok-body.ensures.ok.1 c.if-length-gt-MAX_LEN.false))
