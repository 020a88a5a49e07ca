use Rattle.std.proofs.Common.{◌≡◌, ◌≤◌, take, length, IsCharBoundary}
use Rattle.isle_tidy_layout.specs.Placing.{trimmed}
use Rattle.isle_tidy_layout.proofs.placer.trimmed.Given as goal

abbrev pub invariant-loop-end : goal.invariant-loop-end
invariant-loop-end l =
    (trimmed (take l.end l.bytes) ≡ trimmed l.bytes) × (l.end ≤ length l.bytes) × (l.bytes ≡ l.text) × IsCharBoundary l.text l.end

abbrev pub decreases-loop-end : goal.decreases-loop-end
decreases-loop-end l = l.end
