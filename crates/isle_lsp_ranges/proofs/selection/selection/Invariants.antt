use Rattle.std.proofs.Common.{◌≡◌, ◌≤◌, drop, length}
use Rattle.serde_json.specs.View.{view}
use Rattle.isle_lsp_text.specs.Positions.{IsPlace}
use Rattle.isle_lsp_ranges.specs.Selections.{selection}
use Rattle.isle_lsp_ranges.proofs.selection.selection.Given as goal

abbrev pub invariant-loop-left : goal.invariant-loop-left
invariant-loop-left l = record {
  within : l.left ≤ length l.parts;
  value : view l.value ≡ selection l.encoding l.text (drop l.left l.parts);
  near : IsPlace l.encoding l.text l.near;
}

abbrev pub decreases-loop-left : goal.decreases-loop-left
decreases-loop-left l = l.left
