use Rattle.std.proofs.Common.{◌≡◌, length}
use Rattle.isle_program.specs.Nesting.{deep_from, outside}
use Rattle.isle_program.proofs.nesting.deep_ahead.Given as goal

abbrev pub invariant-loop-ahead : goal.invariant-loop-ahead
invariant-loop-ahead l = deep_from l.nest l.scanner.coming ≡ deep_from outside l.fn.scanner.coming

abbrev pub decreases-loop-ahead : goal.decreases-loop-ahead
decreases-loop-ahead l = length l.scanner.coming
