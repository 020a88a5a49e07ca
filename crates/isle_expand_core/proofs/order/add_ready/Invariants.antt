use Rattle.std.proofs.Common.{◌≡◌, ◌<◌, ◌≤◌, false, true, map}
use Rattle.isle_expand_core.specs.Order.{IsClosed, IsOrder, unended}
use Rattle.isle_expand_core.proofs.order.add_ready.Given as goal

abbrev pub invariant-loop-place : goal.invariant-loop-place
invariant-loop-place l = record {
  order : IsOrder (map (λ v. v.items) l.callees) l.order.ends.items l.order.places.items;
  closed : l.more ≡ false → IsClosed (map (λ v. v.items) l.callees) l.order.ends.items l.place;
  fewer : l.more ≡ true → unended l.order.ends.items < unended l.fn.order.ends.items;
  no_more : unended l.order.ends.items ≤ unended l.fn.order.ends.items;
}
