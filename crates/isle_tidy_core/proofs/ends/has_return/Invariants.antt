use Rattle.std.proofs.Common.{◌≡◌, ◌-◌, ◌≤◌, true, false, length, take}
use Rattle.std.specs.List.{list_all}
use Rattle.isle_tidy_core.specs.Ends.{is_no_return}
use Rattle.isle_tidy_core.proofs.ends.has_return.Given as goal

abbrev pub invariant-loop-at : goal.invariant-loop-at
invariant-loop-at l = (l.at ≤ length l.bytes) × (l.found ≡ false → list_all is_no_return (take l.at l.bytes) ≡ true)

abbrev pub decreases-loop-at : goal.decreases-loop-at
decreases-loop-at l = length l.bytes - l.at
