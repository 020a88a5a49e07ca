use Rattle.std.proofs.Common.{◌≡◌, drop, map, string_bytes}
use Rattle.isle_lsp_protocol.specs.Parameters.{is_among}
use Rattle.isle_lsp_protocol.proofs.parameters.is_among.Given as goal

abbrev pub invariant-loop-known : goal.invariant-loop-known
invariant-loop-known l = is_among (map string_bytes l.uris) l.uri ≡ is_among (map string_bytes (drop l.known-index l.uris)) l.uri
