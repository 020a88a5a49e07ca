use Rattle.std.proofs.Common.{◌≡◌, drop}
use Rattle.serde_json.specs.View.{items_view}
use Rattle.isle_lsp_protocol.specs.Parameters.{positions_in}
use Rattle.isle_lsp_protocol.proofs.Positions.{behind}
use Rattle.isle_lsp_protocol.proofs.parameters.positions_in.Given as goal

abbrev pub invariant-loop-value : goal.invariant-loop-value
invariant-loop-value l = positions_in (items_view l.values) ≡ behind l.positions.items (positions_in (items_view (drop l.value-index l.values)))
