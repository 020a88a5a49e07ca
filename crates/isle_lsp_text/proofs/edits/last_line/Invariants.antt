use Rattle.std.proofs.Common.{◌-◌}
use Rattle.isle_lsp_text.proofs.Parts.{IsBehind}
use Rattle.isle_lsp_text.proofs.edits.last_line.Given as goal

abbrev pub invariant-loop-at : goal.invariant-loop-at
invariant-loop-at l = IsBehind l.text l.start l.end l.at

abbrev pub decreases-loop-at : goal.decreases-loop-at
decreases-loop-at l = l.at - l.start
