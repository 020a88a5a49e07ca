use Rattle.std.proofs.Common.{◌≡◌, drop, map, string_bytes}
use Rattle.isle_lsp_protocol.specs.Parameters.{with_all}
use Rattle.isle_lsp_protocol.proofs.parameters.with_all.Given as goal

abbrev pub invariant-loop-uri : goal.invariant-loop-uri
invariant-loop-uri l =
    with_all (map string_bytes l.fn.uris.items) (map string_bytes l.added) ≡ with_all (map string_bytes l.all.items) (map string_bytes (drop l.uri-index l.added))
