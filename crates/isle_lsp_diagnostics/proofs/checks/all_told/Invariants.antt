use Rattle.std.proofs.Common.{◌≡◌, ◌++◌, drop, map}
use Rattle.std.specs.List.{flat_map}
use Rattle.isle_check_core.specs.Views.{findings_of}
use Rattle.isle_lsp_diagnostics.specs.Checked.{all_told, told_of}
use Rattle.isle_lsp_diagnostics.proofs.checks.all_told.Given as goal

abbrev pub invariant-loop-finding : goal.invariant-loop-finding
invariant-loop-finding l =
    map told_of l.all.items ++ flat_map all_told (findings_of (drop l.finding-index l.found)) ≡ flat_map all_told (findings_of l.found)
