use Rattle.std.proofs.Common.{◌≡◌, drop, string_bytes}
use Rattle.serde_json.specs.View.{items_view}
use Rattle.isle_lsp_protocol.specs.Parameters.{text_after_all}
use Rattle.isle_lsp_protocol.proofs.parameters.text_after_all.Given as goal

abbrev pub invariant-loop-change : goal.invariant-loop-change
invariant-loop-change l = text_after_all l.encoding (items_view l.changes) l.text ≡ text_after_all l.encoding (items_view (drop l.change-index l.changes)) (string_bytes l.after)
