use Rattle.std.proofs.Common.{◌≡◌, [], ◌++◌, length, map}
use Rattle.isle_lsp_text.specs.Calls.{new_words}
use Rattle.isle_lsp_text.proofs.calls.words_ahead.Given as goal

abbrev pub invariant-loop-ahead : goal.invariant-loop-ahead
invariant-loop-ahead l =
    map (λ word. word.now) l.found.items ++ new_words l.callers (map (λ word. word.now) l.found.items) l.scanner.coming
    ≡ new_words l.callers [] l.fn.scanner.coming

abbrev pub decreases-loop-ahead : goal.decreases-loop-ahead
decreases-loop-ahead l = length l.scanner.coming
