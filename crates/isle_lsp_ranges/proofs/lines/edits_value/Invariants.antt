use Rattle.std.proofs.Common.{◌≡◌, map, take}
use Rattle.serde_json.specs.View.{view}
use Rattle.isle_lsp_text.specs.Positions.{IsPlace}
use Rattle.isle_lsp_ranges.specs.LineEdits.{edit_data}
use Rattle.isle_lsp_ranges.proofs.lines.edits_value.Given as goal

abbrev pub invariant-loop-edit : goal.invariant-loop-edit
invariant-loop-edit l = record {
  values : map view l.values.items ≡ map (edit_data l.encoding l.old l.new) (take l.edit-index l.edits);
  place : IsPlace l.encoding l.old l.place;
}
