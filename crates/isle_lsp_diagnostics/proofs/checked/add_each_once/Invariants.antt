use Rattle.std.proofs.Common.{◌≡◌, drop, map}
use Rattle.isle_lsp_diagnostics.specs.Checked.{all_added}
use Rattle.isle_lsp_diagnostics.specs.Marks.{mark_of}
use Rattle.isle_lsp_diagnostics.proofs.checked.add_each_once.Given as goal

abbrev pub invariant-loop-diagnostic : goal.invariant-loop-diagnostic
invariant-loop-diagnostic l =
    all_added (map mark_of l.diagnostics.items) (map mark_of (drop l.diagnostic-index l.more)) ≡ all_added (map mark_of l.initial.diagnostics.items) (map mark_of l.more)
