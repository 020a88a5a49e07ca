use Rattle.std.proofs.Common.{◌≡◌, drop}
use Rattle.serde_json.specs.View.{items_view}
use Rattle.isle_lsp_protocol.specs.Parameters.{has_text}
use Rattle.isle_lsp_protocol.proofs.parameters.has_text.Given as goal

abbrev pub invariant-loop-value : goal.invariant-loop-value
invariant-loop-value l = has_text l.text (items_view l.values) ≡ has_text l.text (items_view (drop l.value-index l.values))
