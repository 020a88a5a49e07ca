use Rattle.std.proofs.Common.{◌≡◌, ◌++◌, drop}
use Rattle.isle_lsp_ranges.specs.Foldings.{breaks, breaks_from}
use Rattle.isle_lsp_ranges.proofs.breaks.breaks.Given as goal

abbrev pub invariant-loop-i : goal.invariant-loop-i
invariant-loop-i l = l.found.items ++ breaks_from l.i (drop l.i l.text) ≡ breaks l.text
