use Rattle.isle_lsp_text.proofs.EditSteps.{edit_at}
use Rattle.isle_lsp.proofs.formatting.edits_between.Goals as goal

pub edits_value-requires : goal.edits_value-requires
edits_value-requires c = rw c.deref.ensures.value (λ i d h. edit_at c.args.old.now c.args.new.now 0 c.in_ok-edits.edits.items i d c.in_ok-edits.ensures.lines h)
