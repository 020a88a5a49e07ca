use Rattle.std.proofs.Common.{◌≡◌, ◌++◌, drop, filter}
use Rattle.isle_index.proofs.occurrences.definitions.Given as goal

abbrev pub invariant-loop-occurrence : goal.invariant-loop-occurrence
invariant-loop-occurrence l =
    l.found.items ++ filter (λ o. o.is_definition) (drop l.occurrence-index l.occurrence-items) ≡ filter (λ o. o.is_definition) l.occurrence-items
