use Rattle.std.proofs.Common.{List, [], drop, map}
use Rattle.isle_lsp_features.specs.Programs.{text_of}
use Rattle.isle_lsp_diagnostics.specs.Checked.{AreChecked}
use Rattle.isle_lsp_diagnostics.specs.Marks.{Mark, mark_of}
use Rattle.isle_lsp_diagnostics.proofs.checked.check_diagnostics.Given as goal

-- what the marks become with those of the programs that are left, they become from the start
abbrev pub invariant-loop-program : goal.invariant-loop-program
invariant-loop-program l =
    (all : List Mark) → AreChecked (map (λ p. map text_of p.items) (drop l.program-index l.programs)) l.file l.text (map mark_of l.diagnostics.items) all
    → AreChecked (map (λ p. map text_of p.items) l.programs) l.file l.text [] all
