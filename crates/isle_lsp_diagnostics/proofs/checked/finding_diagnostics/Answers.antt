use Rattle.std.proofs.Common.{◌≡◌, ◌+◌, ◌∷◌, ◌++◌, ap, append_assoc, drop, map, sym, ◌∙◌}
use Rattle.std.proofs.lemmas.List.{drop_more}
use Rattle.isle_lsp_features.specs.Programs.{text_of}
use Rattle.isle_lsp_diagnostics.specs.Checked.{marks_for, marks_in, told_of}
use Rattle.isle_lsp_diagnostics.specs.Marks.{mark_of}
use Rattle.isle_lsp_diagnostics.proofs.checked.finding_diagnostics.Goals as goal

pub loop-told-preserved : goal.loop-told-preserved
loop-told-preserved c =
    let program = map text_of c.args.program.now in
    let file = c.args.file.now in
    let text = c.args.text.now in
    let all = c.args.all.now in
    let i = c.loop-told.told-index in
    let t = c.told-item.result in
    let marks = map mark_of c.loop-told.diagnostics.items in
    let own = marks_for program file text (told_of t) in
    let rest = marks_in program file text (map told_of (drop (i + 1) all)) in
    let step : marks_in program file text (map told_of (drop i all)) ≡ own ++ rest =
    ap (λ ts. marks_in program file text (map told_of ts))
    (drop_more all i t c.loop-told-test.true ∙ ap (λ q. q ∷ drop (i + 1) all) (sym c.told-item.is)) in
    ap (λ ms. ms ++ rest) c.in_ok-add_diagnostic.ensures ∙ append_assoc marks own rest ∙ ap (λ ms. marks ++ ms) (sym step) ∙ c.loop-told.invariant
