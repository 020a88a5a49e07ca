use Rattle.std.proofs.Common.{◌≡◌, length}
use Rattle.isle_lsp_context.specs.Signatures.{behind_opening}
use Rattle.isle_lsp_context.proofs.parameters.pass_opening.Given as goal

abbrev pub invariant-loop-ahead : goal.invariant-loop-ahead
invariant-loop-ahead l = behind_opening l.scanner.coming ≡ behind_opening l.fn.scanner.coming

abbrev pub decreases-loop-ahead : goal.decreases-loop-ahead
decreases-loop-ahead l = length l.scanner.coming
