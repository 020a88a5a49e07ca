use Rattle.std.proofs.Common.{◌≡◌, ◌∙◌, ◌+◌, [], ap, arith, drop, drop_of_length-le, map, option_map, refl, string_bytes, subst, sym}
use Rattle.std.proofs.lemmas.Grind.{common_steps}
use Rattle.std.proofs.lemmas.List.{append-nil, drop_more}
use Rattle.isle_lsp_actions.proofs.Following.{next_program}
use Rattle.isle_lsp_actions.specs.Expansions.{AreExpansions, use_of}
use Rattle.isle_lsp_actions.proofs.expansions.expansions.Goals as goal

pub loop-texts-preserved : goal.loop-texts-preserved
loop-texts-preserved c =
    let programs = c.args.programs.now in
    let i = c.loop-texts.texts-index in
    next_program _ (map (λ p. map (λ t. t.now) p.items) (drop (i + 1) programs)) _ _ _ (use_of c.args.found.now) _ _ _
    (ap (map (λ p. map (λ t. t.now) p.items)) (drop_more programs i c.texts-item.result c.loop-texts-test.true)) c.in_ok-expansion.ensures
    (ap (map (λ t. t.now)) (c.deref.ensures.value ∙ ap (λ texts. texts.items) c.texts-item.is)) (grind (arith, common_steps)) c.loop-texts.invariant

pub returns : goal.returns
returns c =
    let programs = c.args.programs.now in
    let at = c.loop-texts.texts-index in
    let u = use_of c.args.found.now in
    let none : drop at programs ≡ [] = drop_of_length-le programs (omega (arith, c.loop-texts-test.false)) in
    let whole = c.loop-texts.invariant [] (subst (λ ps. AreExpansions (map (λ p. map (λ t. t.now) p.items) ps) u []) (sym none) refl) in
    subst (AreExpansions (map (λ p. map (λ t. t.now) p.items) programs) u) (append-nil (map (option_map string_bytes) c.loop-texts.expansions.items)) whole
