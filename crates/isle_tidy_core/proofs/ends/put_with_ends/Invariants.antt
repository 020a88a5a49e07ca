use Rattle.std.proofs.Common.{◌≡◌, ◌-◌, ◌≤◌, ◌++◌, IsUtf8, drop, length, string_bytes}
use Rattle.isle_tidy_core.specs.Ends.{with_ends}
use Rattle.isle_tidy_core.proofs.ends.put_with_ends.Given as goal

abbrev pub invariant-loop-out : goal.invariant-loop-out
invariant-loop-out l =
    (l.at ≤ length l.text) × IsUtf8 (drop l.at l.text)
    × (string_bytes l.out ++ with_ends l.line_end (drop l.at l.text) ≡ string_bytes l.fn.out ++ with_ends l.line_end l.text)

abbrev pub decreases-loop-out : goal.decreases-loop-out
decreases-loop-out l = length l.text - l.at
