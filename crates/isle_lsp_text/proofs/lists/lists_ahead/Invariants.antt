use Rattle.std.proofs.Common.{◌≡◌, [], ◌++◌, length, reverse}
use Rattle.isle_lsp_text.specs.Lists.{lists_of}
use Rattle.isle_lsp_text.proofs.lists.lists_ahead.Given as goal

abbrev pub invariant-loop-ahead : goal.invariant-loop-ahead
invariant-loop-ahead l = l.found.items ++ lists_of (reverse l.begun.items) l.scanner.coming ≡ lists_of [] l.fn.scanner.coming

abbrev pub decreases-loop-ahead : goal.decreases-loop-ahead
decreases-loop-ahead l = length l.scanner.coming
