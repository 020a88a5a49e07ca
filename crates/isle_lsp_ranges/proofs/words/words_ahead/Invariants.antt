use Rattle.std.proofs.Common.{◌≡◌, ◌++◌, length}
use Rattle.isle_lsp_ranges.specs.Selections.{words_of}
use Rattle.isle_lsp_ranges.proofs.words.words_ahead.Given as goal

abbrev pub invariant-loop-ahead : goal.invariant-loop-ahead
invariant-loop-ahead l = l.found.items ++ words_of l.scanner.coming ≡ words_of l.fn.scanner.coming

abbrev pub decreases-loop-ahead : goal.decreases-loop-ahead
decreases-loop-ahead l = length l.scanner.coming
