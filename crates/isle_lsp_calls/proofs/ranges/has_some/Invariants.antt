use Rattle.std.proofs.Common.{◌≡◌, drop}
use Rattle.std.specs.List.{list_any}
use Rattle.isle_lsp_calls.specs.Ranges.{is_in}
use Rattle.isle_lsp_calls.proofs.ranges.has_some.Given as goal

abbrev pub invariant-loop-occurrence : goal.invariant-loop-occurrence
invariant-loop-occurrence l = list_any (is_in l.number) (drop l.occurrence-index l.found) ≡ list_any (is_in l.number) l.found
