use Rattle.std.proofs.Common.{◌≡◌, ◌++◌, length}
use Rattle.isle_lsp_colours.specs.Tokens.{entry, tokens_of}
use Rattle.isle_lsp_colours.proofs.tokens.tokens_ahead.Given as goal

abbrev pub invariant-loop-ahead : goal.invariant-loop-ahead
invariant-loop-ahead l =
    l.found.items ++ tokens_of (entry l.classes) l.within l.scanner.coming ≡ tokens_of (entry l.classes) l.within l.fn.scanner.coming

abbrev pub decreases-loop-ahead : goal.decreases-loop-ahead
decreases-loop-ahead l = length l.scanner.coming
