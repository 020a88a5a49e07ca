use Rattle.isle_lsp_ranges.proofs.Depths.{edits_shallow}
use Rattle.isle_lsp_ranges.proofs.LineSteps.{edit_at}
use Rattle.isle_lsp_ranges.proofs.lines.range_formatting.Goals as goal

pub edits_value-requires : goal.edits_value-requires
edits_value-requires c =
    rw c.deref.ensures.value (λ i d h. edit_at c.args.old.now c.args.new.now c.offset_of-from.result c.lines_end-to.result c.in_ok-edits.edits.items i d c.in_ok-edits.ensures h)

pub returns-clause-shallow : goal.returns-clause-shallow
returns-clause-shallow c = edits_shallow c.args.encoding c.edits_value.result c.args.old.now c.args.new.now c.deref.result.now c.edits_value.ensures
