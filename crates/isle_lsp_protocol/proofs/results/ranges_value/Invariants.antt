use Rattle.std.proofs.Common.{◌≡◌, map, take}
use Rattle.serde_json.specs.View.{view}
use Rattle.isle_lsp_protocol.specs.Results.{range_data}
use Rattle.isle_lsp_protocol.proofs.results.ranges_value.Given as goal

abbrev pub invariant-loop-range : goal.invariant-loop-range
invariant-loop-range l = map view l.values.items ≡ map range_data (take l.range-index l.ranges)
