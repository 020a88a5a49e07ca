use Rattle.std.proofs.Common.{◌≡◌, ◌++◌, drop, map}
use Rattle.isle_expand_core.specs.Mentions.{uses}
use Rattle.isle_expand_core.specs.Order.{callee_places, callees_in}
use Rattle.isle_expand_core.specs.Views.{begun_of}
use Rattle.isle_expand_core.proofs.order.callees.Given as goal

abbrev pub invariant-loop-template : goal.invariant-loop-template
invariant-loop-template l =
    map (λ v. v.items) l.found.items
    ++ map (λ m. callee_places (map begun_of l.templates) (uses m.template)) (map begun_of (drop l.template-index l.templates))
    ≡ callees_in (map begun_of l.templates)
