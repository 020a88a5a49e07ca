use Rattle.std.proofs.Common.{map}
use Rattle.isle_expand_core.specs.Order.{IsOrder, unended}
use Rattle.isle_expand_core.proofs.order.settle.Given as goal

abbrev pub invariant-loop-order : goal.invariant-loop-order
invariant-loop-order l = IsOrder (map (λ v. v.items) l.callees) l.order.ends.items l.order.places.items

abbrev pub decreases-loop-order : goal.decreases-loop-order
decreases-loop-order l = unended l.order.ends.items
