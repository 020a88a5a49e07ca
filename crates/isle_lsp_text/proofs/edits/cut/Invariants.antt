use Rattle.std.proofs.Common.{◌-◌}
use Rattle.isle_lsp_text.specs.Edits.{IsShorter}
use Rattle.isle_lsp_text.proofs.edits.cut.Given as goal

abbrev pub invariant-loop-cut : goal.invariant-loop-cut
invariant-loop-cut l = IsShorter l.old l.new l.fn.edit l.cut

abbrev pub decreases-loop-cut : goal.decreases-loop-cut
decreases-loop-cut l = l.cut.end - l.cut.start
