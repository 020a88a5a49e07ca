use Rattle.std.proofs.Common.{◌+◌, ◌∷◌, List, ap, drop, map, subst, sym, ◌∙◌}
use Rattle.std.proofs.lemmas.List.{drop_more}
use Rattle.std.specs.Global.{Vec}
use Rattle.isle_lsp_features.specs.Programs as texts
use Rattle.isle_lsp_features.specs.Programs.{text_of}
use Rattle.isle_lsp_features.specs.declared.Text.{Text}
use Rattle.isle_lsp_diagnostics.specs.Checked.{AreChecked, AreProgramMarks, all_added}
use Rattle.isle_lsp_diagnostics.specs.Marks.{Mark, mark_of}
use Rattle.isle_lsp_diagnostics.proofs.checked.check_diagnostics.Goals as goal

pub loop-program-preserved : goal.loop-program-preserved
loop-program-preserved c = λ all added.
    let file = c.args.file.now in
    let text = c.args.text.now in
    let programs = c.args.programs.now in
    let i = c.loop-program.program-index in
    let program = c.program-item.result in
    let more = map mark_of c.in_ok-more.more.items in
    let told =
    c.in_ok-add_each_once.ensures
    ∙ ap (λ ds. all_added (map mark_of c.loop-program.diagnostics.items) (map mark_of ds)) c.deref-in-loop-program.ensures.value in
    let P : List texts.Text → Type 0 = λ ts. AreProgramMarks ts file text more in
    let Q : List Mark → Type 0 = λ ms. AreChecked (map (λ p. map text_of p.items) (drop (i + 1) programs)) file text ms all in
    let R : List (Vec Text) → Type 0 = λ ps. AreChecked (map (λ p. map text_of p.items) ps) file text (map mark_of c.loop-program.diagnostics.items) all in
    c.loop-program.invariant all
    (subst R (sym (drop_more programs i program c.loop-program-test.true ∙ ap (λ q. q ∷ drop (i + 1) programs) (sym c.program-item.is)))
    (more, subst P (ap (map text_of) c.deref.ensures.value) c.in_ok-more.ensures.ok, subst Q told added))
