use Rattle.std.proofs.Common.{◌≡◌, map, take}
use Rattle.serde_json.specs.View.{view}
use Rattle.isle_lsp_ranges.specs.Selections.{selection_at}
use Rattle.isle_lsp_ranges.proofs.selection.selection_ranges.Given as goal

abbrev pub invariant-loop-position : goal.invariant-loop-position
invariant-loop-position l = map view l.values.items ≡ map (selection_at l.encoding l.text l.words.items l.lists.items) (take l.position-index l.positions)
