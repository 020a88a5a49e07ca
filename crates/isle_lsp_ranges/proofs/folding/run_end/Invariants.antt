use Rattle.std.proofs.Common.{◌≡◌, ◌-◌, ◌<◌, drop, length}
use Rattle.isle_lsp_ranges.specs.Foldings.{run_end}
use Rattle.isle_lsp_ranges.proofs.folding.run_end.Given as goal

abbrev pub invariant-loop-end : goal.invariant-loop-end
invariant-loop-end l = record {
  within : l.end < length l.comments;
  ends : run_end l.end (drop l.end l.comments) ≡ run_end l.line (drop l.line l.comments);
}

abbrev pub decreases-loop-end : goal.decreases-loop-end
decreases-loop-end l = length l.comments - l.end
