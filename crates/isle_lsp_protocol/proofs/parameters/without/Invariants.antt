use Rattle.std.proofs.Common.{◌≡◌, ◌++◌, drop, map, string_bytes}
use Rattle.isle_lsp_protocol.specs.Parameters.{without}
use Rattle.isle_lsp_protocol.proofs.parameters.without.Given as goal

abbrev pub invariant-loop-uri : goal.invariant-loop-uri
invariant-loop-uri l =
    without (map string_bytes l.removed) (map string_bytes l.uris) ≡ map string_bytes l.kept.items ++ without (map string_bytes l.removed) (map string_bytes (drop l.uri-index l.uris))
