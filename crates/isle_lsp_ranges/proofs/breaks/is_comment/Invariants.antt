use Rattle.std.proofs.Common.{◌≡◌, drop}
use Rattle.isle_lsp_ranges.specs.Foldings.{is_comment}
use Rattle.isle_lsp_ranges.proofs.breaks.is_comment.Given as goal

abbrev pub invariant-loop-byte : goal.invariant-loop-byte
invariant-loop-byte l = is_comment (drop l.byte-index l.bytes) ≡ is_comment l.bytes
