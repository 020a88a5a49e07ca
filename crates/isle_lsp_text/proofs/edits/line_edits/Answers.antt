use Rattle.std.proofs.Common.{◌≡◌, ◌<◌, ◌⊎◌, length, inl, inr, arith}
use Rattle.isle_lsp_text.proofs.EditSteps.{all_turned, hand_next, pushed_cut, goes_on}
use Rattle.isle_lsp_text.proofs.edits.line_edits.Goals as goal
use Rattle.isle_lsp_text.proofs.edits.line_edits.Goals.{then-edit-old, else-edit-old+then-edit-new}

pub loop-edit-preserved-then-are_equal : goal.loop-edit-preserved-then-are_equal
loop-edit-preserved-then-are_equal c =
    let e = c.loop-edit.edit in
    let old = c.as_bytes-old.result.now in
    let new = c.as_bytes-new.result.now in
    let o : (e.end < length old) ⊎ (e.to < length new) = elim c.if-edit-old.branch [ then-edit-old w ↦ inl w.if-edit-old.true | else-edit-old+then-edit-new w ↦ inr w.if-edit-new.true ] in
    let same = c.are_equal.ensures.equal c.if-are_equal.true in
    let p = c.next_line-end.ensures in
    let q = c.next_line-to.ensures in
    let grows = goes_on old new e.end e.to c.next_line-end.result c.next_line-to.result p.order p.within q.order q.within p.on q.on same o in
    rw c.in_ok-push_changed.ensures (hand_next old new _ _ e _ _ (pushed_cut old new _ e _ c.loop-edit.invariant c.cut.ensures) grows p.within q.order q.within same p.line q.line)

pub returns-clause-lines : goal.returns-clause-lines
returns-clause-lines c =
    let old = c.as_bytes-old.result.now in
    let new = c.as_bytes-new.result.now in
    let g = pushed_cut old new _ c.loop-edit.edit _ c.loop-edit.invariant c.cut-2.ensures in
    rw (c.in_ok-push_changed-2.ensures, ← c.as_bytes-old.ensures.value, ← c.as_bytes-new.ensures.value) g.edits

pub returns-clause-gives : goal.returns-clause-gives
returns-clause-gives c =
    let old = c.as_bytes-old.result.now in
    let new = c.as_bytes-new.result.now in
    let e = c.loop-edit.edit in
    let h = c.loop-edit.invariant in
    let g = pushed_cut old new _ e _ h c.cut-2.ensures in
    let p : e.end ≡ length old = omega (arith, h.end.0, c.if-edit-old.false) in
    let q : e.to ≡ length new = omega (arith, h.to.0, c.if-edit-new.false) in
    rw (c.in_ok-push_changed-2.ensures, ← c.as_bytes-old.ensures.value, ← c.as_bytes-new.ensures.value) (all_turned old new _ e.end e.to g.turns p q)
