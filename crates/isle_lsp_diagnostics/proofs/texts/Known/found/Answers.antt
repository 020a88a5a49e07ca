use Rattle.std.proofs.Common.{ap, is_none, map, option_map, subst, sym, ◌∙◌}
use Rattle.isle_lsp_diagnostics.specs.Checked.{IsRefusedText}
use Rattle.isle_lsp_diagnostics.specs.Diagnostics.{AreRefusedMarks}
use Rattle.isle_lsp_diagnostics.specs.Known.{IsRead, tree_of}
use Rattle.isle_lsp_diagnostics.specs.Marks.{mark_of}
use Rattle.isle_lsp_diagnostics.proofs.Own.{refused_marks}
use Rattle.isle_lsp_diagnostics.proofs.texts.Known.found.Goals as goal

pub with_found-requires-in-None : goal.with_found-requires-in-None
with_found-requires-in-None c =
    let read = subst (λ tree. IsRead c.args.self.now.number c.args.self.now.text (option_map tree_of tree)) c.in-None.is c.in_ok-tree.ensures.read in
    let same = c.as_str-in-None.ensures.value ∙ ap (λ k. k.text) c.self-in-None.view_is in
    let why = subst (λ text. AreRefusedMarks text (map mark_of c.in_ok-found-in-None.found.items)) same c.in_ok-found-in-None.ensures.ok in
    refused_marks _ _ _ (c.in_ok-tree.ensures.refused ∙ ap is_none c.in-None.is) (subst IsRefusedText (sym c.in_ok-tree.ensures.text) read) why
