use Rattle.std.proofs.Common.{◌≡◌, ◌++◌, drop, map}
use Rattle.isle_lint_core.specs.Finding.{finding_of}
use Rattle.isle_lsp_diagnostics.specs.Diagnostics.{found_mark, shown}
use Rattle.isle_lsp_diagnostics.specs.Marks.{mark_of}
use Rattle.isle_lsp_diagnostics.proofs.diagnostics.finding_diagnostics.Given as goal

abbrev pub invariant-loop-finding : goal.invariant-loop-finding
invariant-loop-finding l =
    map mark_of l.diagnostics.items ++ map (found_mark l.text) (shown l.allowances (map finding_of (drop l.finding-index l.found)))
    ≡ map (found_mark l.text) (shown l.allowances (map finding_of l.found))
