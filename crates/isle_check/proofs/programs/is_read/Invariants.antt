use Rattle.std.proofs.Common.{◌≡◌, drop}
use Rattle.isle_check.specs.Programs.{is_read}
use Rattle.isle_check.proofs.programs.is_read.Given as goal

abbrev pub invariant-loop-number : goal.invariant-loop-number
invariant-loop-number l = is_read (drop l.number l.refusals) l.number l.has ≡ is_read l.refusals 0 l.has
