use Rattle.std.proofs.Common.{◌≡◌, ◌++◌, drop, map}
use Rattle.isle_lsp_diagnostics.specs.Marks.{mark_of}
use Rattle.isle_lsp_diagnostics.proofs.diagnostics.copies_of.Given as goal

abbrev pub invariant-loop-diagnostic : goal.invariant-loop-diagnostic
invariant-loop-diagnostic l = map mark_of l.copies.items ++ map mark_of (drop l.diagnostic-index l.diagnostics) ≡ map mark_of l.diagnostics
