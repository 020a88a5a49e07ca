use Rattle.std.proofs.Common.{◌≡◌, ◌++◌, drop, map}
use Rattle.isle_expand_core.specs.Order.{callee_places}
use Rattle.isle_expand_core.specs.Views.{begun_of, uses_of}
use Rattle.isle_expand_core.proofs.order.callees_of.Given as goal

abbrev pub invariant-loop-term : goal.invariant-loop-term
invariant-loop-term l =
    l.places.items ++ callee_places (map begun_of l.templates) (uses_of (drop l.term-index l.term-items))
    ≡ callee_places (map begun_of l.templates) (uses_of l.term-items)
