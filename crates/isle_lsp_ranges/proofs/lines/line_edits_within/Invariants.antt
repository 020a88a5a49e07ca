use Rattle.std.proofs.Common.{◌-◌, ◌+◌, length}
use Rattle.isle_lsp_ranges.proofs.LineSteps.{IsTurned}
use Rattle.isle_lsp_ranges.proofs.lines.line_edits_within.Given as goal

abbrev pub invariant-loop-edit : goal.invariant-loop-edit
invariant-loop-edit l = IsTurned l.old l.new l.from l.to l.edits.items l.edit.end l.edit.to

abbrev pub decreases-loop-edit : goal.decreases-loop-edit
decreases-loop-edit l = (length l.old - l.edit.end) + (length l.new - l.edit.to)
