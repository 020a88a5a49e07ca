use Rattle.std.proofs.Common.{◌≡◌, ◌==◌, drop}
use Rattle.std.specs.List.{sum}
use Rattle.isle_c.proofs.programs.add_up.Given as goal

abbrev pub invariant-loop-len : goal.invariant-loop-len
invariant-loop-len l = (sum (drop l.len-index l.lengths) == l.left) ≡ (sum l.lengths == l.total)
