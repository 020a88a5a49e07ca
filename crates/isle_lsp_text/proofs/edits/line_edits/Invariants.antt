use Rattle.std.proofs.Common.{length, ◌-◌, ◌+◌}
use Rattle.isle_lsp_text.proofs.EditSteps.{IsInHand}
use Rattle.isle_lsp_text.proofs.edits.line_edits.Given as goal

abbrev pub invariant-loop-edit : goal.invariant-loop-edit
invariant-loop-edit l = IsInHand l.old l.new l.edits.items l.edit

abbrev pub decreases-loop-edit : goal.decreases-loop-edit
decreases-loop-edit l = (length l.old - l.edit.end) + (length l.new - l.edit.to)
