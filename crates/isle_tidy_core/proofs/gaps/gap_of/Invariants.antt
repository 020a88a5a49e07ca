-- The gap so far, with the blanks that are left, is the gap with all.
use Rattle.std.proofs.Common.{◌≡◌, ◌+◌, ◌≤◌, drop}
use Rattle.isle_tidy_core.specs.Grammar.{gap_of}
use Rattle.isle_tidy_core.specs.Sizes.{size_of}
use Rattle.isle_tidy_core.proofs.gaps.gap_of.Given as goal

abbrev pub invariant-loop-at : goal.invariant-loop-at
invariant-loop-at l =
    (gap_of l.gap (drop l.at l.blanks) ≡ gap_of l.fn.gap l.blanks) × (size_of l.gap ≤ size_of l.fn.gap + l.at)
