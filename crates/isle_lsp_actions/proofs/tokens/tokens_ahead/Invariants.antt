use Rattle.std.proofs.Common.{◌≡◌, ◌++◌, length, map}
use Rattle.isle_lsp_actions.specs.Tokens.{lexeme_of}
use Rattle.isle_lsp_actions.proofs.tokens.tokens_ahead.Given as goal

abbrev pub invariant-loop-ahead : goal.invariant-loop-ahead
invariant-loop-ahead l = map lexeme_of l.found.items ++ l.scanner.coming ≡ l.fn.scanner.coming

abbrev pub decreases-loop-ahead : goal.decreases-loop-ahead
decreases-loop-ahead l = length l.scanner.coming
