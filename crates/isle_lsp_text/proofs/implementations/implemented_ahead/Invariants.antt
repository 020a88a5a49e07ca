use Rattle.std.proofs.Common.{◌≡◌, ◌++◌, length}
use Rattle.isle_lsp_text.specs.Implementations.{implemented_from}
use Rattle.isle_lsp_text.specs.declared.implementations.DefinitionPart.TheVariants.{Keyword}
use Rattle.isle_lsp_text.proofs.implementations.implemented_ahead.Given as goal

abbrev pub invariant-loop-ahead : goal.invariant-loop-ahead
invariant-loop-ahead l = l.found.items ++ implemented_from l.text l.depth l.part l.scanner.coming ≡ implemented_from l.text 0 Keyword l.fn.scanner.coming

abbrev pub decreases-loop-ahead : goal.decreases-loop-ahead
decreases-loop-ahead l = length l.scanner.coming
