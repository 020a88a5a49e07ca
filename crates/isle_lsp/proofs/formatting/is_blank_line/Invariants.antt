use Rattle.std.proofs.Common.{◌≡◌, drop}
use Rattle.isle_lsp.specs.Formatted.{is_blank_line}
use Rattle.isle_lsp.proofs.formatting.is_blank_line.Given as goal

abbrev pub invariant-loop-byte : goal.invariant-loop-byte
invariant-loop-byte l = is_blank_line (drop l.byte-index l.bytes) ≡ is_blank_line l.bytes
