use Rattle.std.proofs.Common.{map}
use Rattle.isle_check_recursion.specs.Walks.{IsSound, unended}
use Rattle.isle_check_recursion.proofs.cycles.ends.Given as goal

abbrev pub invariant-loop-ends : goal.invariant-loop-ends
invariant-loop-ends l = IsSound (map (λ v. v.items) l.next) l.ends.items

abbrev pub decreases-loop-ends : goal.decreases-loop-ends
decreases-loop-ends l = unended l.ends.items
