use Rattle.std.proofs.Common.{◌≡◌, drop, map}
use Rattle.isle_lsp_diagnostics.specs.Checked.{is_among}
use Rattle.isle_lsp_diagnostics.specs.Marks.{mark_of}
use Rattle.isle_lsp_diagnostics.proofs.checked.is_among.Given as goal

abbrev pub invariant-loop-other : goal.invariant-loop-other
invariant-loop-other l = is_among (map mark_of (drop l.other-index l.diagnostics)) (mark_of l.diagnostic) ≡ is_among (map mark_of l.diagnostics) (mark_of l.diagnostic)
