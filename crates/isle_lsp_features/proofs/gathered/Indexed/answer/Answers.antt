use Rattle.std.proofs.Common.{ℕ, ap, map, subst, sym, ◌∙◌}
use Rattle.isle_lsp_features.specs.Programs.{text_of}
use Rattle.isle_lsp_features.specs.Gathered.{IsGathered, kept_of, refused_in}
use Rattle.isle_lsp_features.proofs.Renewing.{gathered-of}
use Rattle.isle_lsp_features.proofs.gathered.Indexed.answer.Goals as goal

pub answer_from-requires : goal.answer_from-requires
answer_from-requires c =
    let inside = c.gathered.inside in
    let Of : ℕ → Type 0 = λ n. IsGathered (map text_of c.args.program.now) inside.index n in
    let count = c.refused_in-refused.ensures ∙ ap (λ xs. refused_in (map kept_of xs)) c.deref.ensures.value in
    subst Of (sym count)
    (gathered-of (map text_of c.args.program.now) (map kept_of inside.texts.items) inside.index (sym c.in_ok-gathered.ensures.ok ∙ sym c.gathered.view_is) c.gathered.invariant)
