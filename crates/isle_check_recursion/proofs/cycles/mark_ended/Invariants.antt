use Rattle.std.proofs.Common.{◌≡◌, ◌≤◌, ◌+◌, length, map}
use Rattle.isle_check_recursion.specs.Walks.{IsSound, unended}
use Rattle.isle_check_recursion.proofs.cycles.mark_ended.Given as goal

abbrev pub invariant-loop-place : goal.invariant-loop-place
invariant-loop-place l = record {
  sound : IsSound (map (λ v. v.items) l.next) l.ends.items;
  no_more : unended l.ends.items ≤ unended l.fn.ends.items;
  count : unended l.ends.items + length l.marked.items ≡ unended l.fn.ends.items + length l.fn.marked.items;
}
