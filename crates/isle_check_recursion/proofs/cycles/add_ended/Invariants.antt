use Rattle.std.proofs.Common.{◌≡◌, ◌<◌, ◌≤◌, false, true, map}
use Rattle.isle_check_recursion.specs.Walks.{IsClosed, IsSound, unended}
use Rattle.isle_check_recursion.proofs.cycles.add_ended.Given as goal

abbrev pub invariant-loop-place : goal.invariant-loop-place
invariant-loop-place l = record {
  sound : IsSound (map (λ v. v.items) l.next) l.ends.items;
  closed : l.more ≡ false → IsClosed (map (λ v. v.items) l.next) l.ends.items l.place;
  fewer : l.more ≡ true → unended l.ends.items < unended l.fn.ends.items;
  no_more : unended l.ends.items ≤ unended l.fn.ends.items;
}
