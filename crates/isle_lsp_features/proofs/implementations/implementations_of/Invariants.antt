use Rattle.std.proofs.Common.{◌≡◌, ◌++◌, drop, filter}
use Rattle.isle_lsp_features.specs.Implemented.{is_implementation}
use Rattle.isle_lsp_features.proofs.implementations.implementations_of.Given as goal

abbrev pub invariant-loop-occurrence : goal.invariant-loop-occurrence
invariant-loop-occurrence l =
    l.marked.items ++ filter (is_implementation l.number l.marks) (drop l.occurrence-index l.found) ≡ filter (is_implementation l.number l.marks) l.found
