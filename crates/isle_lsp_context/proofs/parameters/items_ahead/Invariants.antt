use Rattle.std.proofs.Common.{◌≡◌, ◌++◌, length}
use Rattle.isle_lsp_context.specs.Signatures.{items_from}
use Rattle.isle_lsp_context.proofs.parameters.items_ahead.Given as goal

abbrev pub invariant-loop-ahead : goal.invariant-loop-ahead
invariant-loop-ahead l = l.found.items ++ items_from l.depth l.from l.scanner.coming ≡ items_from 0 0 l.fn.scanner.coming

abbrev pub decreases-loop-ahead : goal.decreases-loop-ahead
decreases-loop-ahead l = length l.scanner.coming
