use Rattle.std.proofs.Common.{◌++◌, ◌∷◌, [], ap, ◌∙◌}
use Rattle.std.proofs.lemmas.Result.{IfOk-weaker}
use Rattle.isle_check_overlaps.specs.Stars.{star, top}
use Rattle.isle_check_overlaps.specs.Views.{pairs_of, star_of, stars_of}
use Rattle.isle_check_overlaps.proofs.ListLemmas.{map_last}
use Rattle.isle_check_overlaps.proofs.stars.add_star.Goals as goal

pub returns-clause-told : goal.returns-clause-told
returns-clause-told c =
    IfOk-weaker c.without.result _ _
    (λ left is. ap stars_of c.in_ok-push.ensures.items
    ∙ (map_last star_of c.args.made.now.items c.in_ok-star_around.field-0
    ∙ ap (λ s. stars_of c.args.made.now.items ++ s ∷ []) (c.in_ok-star_around.ensures
    ∙ (ap (λ ps. star c.in_ok-center.center (pairs_of ps)) c.deref-2.ensures.value
    ∙ ap (λ n. star n (pairs_of c.args.pairs.now.items)) (c.in_ok-center.ensures ∙ ap (λ ps. top (pairs_of ps) c.args.count) c.deref.ensures.value)))))
    c.without.ensures
