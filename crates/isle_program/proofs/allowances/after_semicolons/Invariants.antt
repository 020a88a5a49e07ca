use Rattle.std.proofs.Common.{◌≡◌, length}
use Rattle.isle_program.specs.Allowances.{after_semicolons}
use Rattle.isle_program.proofs.allowances.after_semicolons.Given as goal

abbrev pub invariant-loop-rest : goal.invariant-loop-rest
invariant-loop-rest l = after_semicolons l.rest ≡ after_semicolons l.line

abbrev pub decreases-loop-rest : goal.decreases-loop-rest
decreases-loop-rest l = length l.rest
