use Rattle.std.proofs.Common.{◌≡◌, ◌+◌, [], ap, arith, drop, drop_of_length-le, map, option_map, refl, subst, sym}
use Rattle.std.proofs.lemmas.List.{append-nil, drop_more}
use Rattle.isle_lsp_actions.proofs.Following.{next_text}
use Rattle.isle_lsp_actions.specs.Extractors.{AreExtractors, extractor_of}
use Rattle.isle_lsp_actions.proofs.extractors.extractors.Goals as goal

pub loop-text-preserved : goal.loop-text-preserved
loop-text-preserved c =
    let texts = c.args.texts.now in
    let i = c.loop-text.text-index in
    next_text _ (map (λ t. t.now) (drop (i + 1) texts)) _ _ _ _ _ _ _
    (ap (map (λ t. t.now)) (drop_more texts i _ c.loop-text-test.true)) c.in_ok-tokens.ensures c.deref.ensures.value c.in_ok-add_extractors.ensures c.loop-text.invariant

pub returns : goal.returns
returns c =
    let texts = c.args.texts.now in
    let at = c.loop-text.text-index in
    let none : drop at texts ≡ [] = drop_of_length-le texts (omega (arith, c.loop-text-test.false)) in
    let whole = c.loop-text.invariant [] (subst (λ ts. AreExtractors (map (λ t. t.now) ts) c.args.name.now []) (sym none) refl) in
    subst (AreExtractors (map (λ t. t.now) texts) c.args.name.now) (append-nil (map (option_map extractor_of) c.loop-text.found.items)) whole
