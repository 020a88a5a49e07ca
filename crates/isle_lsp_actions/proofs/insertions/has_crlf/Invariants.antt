use Rattle.std.proofs.Common.{◌≡◌, length}
use Rattle.isle_lsp_actions.specs.Insertions.{has_crlf}
use Rattle.isle_lsp_actions.proofs.insertions.has_crlf.Given as goal

abbrev pub invariant-loop-rest : goal.invariant-loop-rest
invariant-loop-rest l = has_crlf l.rest ≡ has_crlf l.text

abbrev pub decreases-loop-rest : goal.decreases-loop-rest
decreases-loop-rest l = length l.rest
