use Rattle.std.proofs.Common.{◌≡◌, ◌++◌, drop, map}
use Rattle.isle_lsp_features.specs.Programs.{text_of}
use Rattle.isle_lsp_diagnostics.specs.Checked.{marks_in, told_of}
use Rattle.isle_lsp_diagnostics.specs.Marks.{mark_of}
use Rattle.isle_lsp_diagnostics.proofs.checked.finding_diagnostics.Given as goal

abbrev pub invariant-loop-told : goal.invariant-loop-told
invariant-loop-told l =
    map mark_of l.diagnostics.items ++ marks_in (map text_of l.program) l.file l.text (map told_of (drop l.told-index l.all))
    ≡ marks_in (map text_of l.program) l.file l.text (map told_of l.all)
