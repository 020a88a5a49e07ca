use Rattle.std.proofs.Common.{◌≡◌, ◌++◌, ◌≤◌, length}
use Rattle.isle_base.specs.Steps.{AreWithin, Rises}
use Rattle.isle_program.specs.Openings.{openings}
use Rattle.isle_program.proofs.openings.openings_ahead.Given as goal

abbrev pub invariant-loop-ahead : goal.invariant-loop-ahead
invariant-loop-ahead l = record {
  so_far : l.all.items ++ openings l.before l.depth l.scanner.coming ≡ openings 0 0 l.fn.scanner.coming;
  lists : l.depth ≤ l.before;
  behind : Rises 0 l.scanner.coming → Rises l.before l.scanner.coming;
  first : Rises 0 l.scanner.coming → Rises 0 l.fn.scanner.coming;
  within : AreWithin l.scanner.size l.scanner.coming → AreWithin l.fn.scanner.size l.fn.scanner.coming;
}

abbrev pub decreases-loop-ahead : goal.decreases-loop-ahead
decreases-loop-ahead l = length l.scanner.coming
