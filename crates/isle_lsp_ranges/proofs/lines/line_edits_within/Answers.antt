use Rattle.isle_lsp_ranges.proofs.LineSteps.{all_turned, turned_edited, turned_same}
use Rattle.isle_lsp_ranges.proofs.lines.line_edits_within.Goals as goal

pub loop-edit-preserved-in-Continue-1 : goal.loop-edit-preserved-in-Continue-1
loop-edit-preserved-in-Continue-1 c =
    rw c.in_ok-push_within.ensures (turned_edited c.as_bytes-old.result.now c.as_bytes-new.result.now c.args.from c.args.to c.loop-edit.edits.items c.loop-edit.edit.end c.loop-edit.edit.to c.next_pair-edit.result c.loop-edit.invariant c.next_pair-edit.ensures (c.is_changed.ensures.other c.if-is_changed.true))

pub loop-edit-preserved : goal.loop-edit-preserved
loop-edit-preserved c =
    turned_same c.as_bytes-old.result.now c.as_bytes-new.result.now c.args.from c.args.to c.loop-edit.edits.items c.loop-edit.edit.end c.loop-edit.edit.to c.next_pair-edit.result c.loop-edit.invariant c.next_pair-edit.ensures (c.is_changed.ensures.same c.if-is_changed.false)

pub returns : goal.returns
returns c =
    rw (← c.as_bytes-old.ensures.value, ← c.as_bytes-new.ensures.value) (all_turned c.as_bytes-old.result.now c.as_bytes-new.result.now c.args.from c.args.to c.loop-edit.edits.items c.loop-edit.edit.end c.loop-edit.edit.to c.loop-edit.invariant c.if-edit-old.false c.if-edit-new.false)
