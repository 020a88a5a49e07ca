use Rattle.std.proofs.Common.{◌≡◌, ◌++◌, length, map}
use Rattle.isle_lsp_actions.specs.Names.{name_of, names_of}
use Rattle.isle_lsp_actions.proofs.names.names_ahead.Given as goal

abbrev pub invariant-loop-ahead : goal.invariant-loop-ahead
invariant-loop-ahead l = map name_of l.found.items ++ names_of l.scanner.coming ≡ names_of l.fn.scanner.coming

abbrev pub decreases-loop-ahead : goal.decreases-loop-ahead
decreases-loop-ahead l = length l.scanner.coming
