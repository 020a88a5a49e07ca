use Rattle.std.proofs.Common.{◌≡◌, ◌-◌, [], length, string_bytes}
use Rattle.isle_tidy_core.proofs.Comparing.{IsCompared}
use Rattle.isle_tidy_core.proofs.is_tidy.Given as goal

abbrev pub invariant-loop-part : goal.invariant-loop-part
invariant-loop-part l = IsCompared l.text l.at l.tidying × (string_bytes l.part ≡ [])

abbrev pub decreases-loop-part : goal.decreases-loop-part
decreases-loop-part l = length l.text - l.tidying.at
