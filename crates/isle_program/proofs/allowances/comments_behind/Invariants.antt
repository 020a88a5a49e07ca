use Rattle.std.proofs.Common.{◌≡◌, ◌++◌, ◌≤◌, ◌-◌, List, ℕ, drop, length, map}
use Rattle.isle_program.specs.Allowances.{Comments}
use Rattle.isle_program.proofs.allowances.comments_behind.Given as goal

abbrev pub invariant-loop-end : goal.invariant-loop-end
invariant-loop-end l = record {
  within : l.at ≤ length l.text;
  so_far : (more : List (List ℕ)) → Comments (drop l.at l.text) more → Comments (drop l.fn.from l.text) (map (λ comment. comment.now) l.comments.items ++ more);
}

abbrev pub decreases-loop-end : goal.decreases-loop-end
decreases-loop-end l = length l.text - l.at
