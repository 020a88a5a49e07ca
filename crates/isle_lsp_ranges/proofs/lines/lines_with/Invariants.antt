use Rattle.std.proofs.Common.{◌-◌, ◌≤◌, length}
use Rattle.isle_lsp_text.specs.Edits.{IsLineStart}
use Rattle.isle_lsp_ranges.proofs.lines.lines_with.Given as goal

abbrev pub invariant-loop-left : goal.invariant-loop-left
invariant-loop-left l = record {
  order : l.start ≤ l.end;
  line : IsLineStart l.text l.end;
}

abbrev pub decreases-loop-left : goal.decreases-loop-left
decreases-loop-left l = length l.text - l.end
