use Rattle.std.proofs.Common.{◌≡◌, ◌++◌, drop, map, string_bytes}
use Rattle.serde_json.specs.View.{items_view}
use Rattle.isle_lsp_protocol.specs.Parameters.{uris_in}
use Rattle.isle_lsp_protocol.proofs.parameters.uris_in.Given as goal

abbrev pub invariant-loop-folder : goal.invariant-loop-folder
invariant-loop-folder l = uris_in (items_view l.folders) ≡ map string_bytes l.uris.items ++ uris_in (items_view (drop l.folder-index l.folders))
