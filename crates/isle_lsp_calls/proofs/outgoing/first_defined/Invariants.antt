use Rattle.std.proofs.Common.{◌≡◌, drop, filter, slice_get}
use Rattle.isle_lsp_calls.proofs.outgoing.first_defined.Given as goal

abbrev pub invariant-loop-occurrence : goal.invariant-loop-occurrence
invariant-loop-occurrence l = slice_get (filter (λ o. o.is_definition) (drop l.occurrence-index l.found)) 0 ≡ slice_get (filter (λ o. o.is_definition) l.found) 0
