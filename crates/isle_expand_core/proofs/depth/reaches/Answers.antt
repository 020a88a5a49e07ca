use Rattle.std.proofs.Common.{map, ap, ◌∙◌}
use Rattle.isle_expand_core.specs.Depth.{settled}
use Rattle.isle_expand_core.specs.Views.{begun_of}
use Rattle.isle_expand_core.proofs.Depths.{nothing_each}
use Rattle.isle_expand_core.proofs.depth.reaches.Goals as goal

pub loop-place-init : goal.loop-place-init
loop-place-init c =
    ap (settled c.args.order.now (map begun_of c.args.templates.now)) (c.in_ok-reaches.ensures.items_if_clones_equal (λ x is. is) ∙ nothing_each begun_of c.args.templates.now)
