use Rattle.std.proofs.Common.{◌≡◌, map, take}
use Rattle.serde_json.specs.View.{view}
use Rattle.isle_lsp_protocol.specs.Results.{text_edit}
use Rattle.isle_lsp_protocol.proofs.items.edits_value.Given as goal

abbrev pub invariant-loop-range : goal.invariant-loop-range
invariant-loop-range l = map view l.edits.items ≡ map (λ r. text_edit r l.text) (take l.range-index l.ranges)
