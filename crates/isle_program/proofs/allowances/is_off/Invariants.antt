use Rattle.std.proofs.Common.{◌≡◌, drop}
use Rattle.isle_program.specs.Allowances.{is_off}
use Rattle.isle_program.proofs.allowances.is_off.Given as goal

abbrev pub invariant-loop-other : goal.invariant-loop-other
invariant-loop-other l = is_off (drop l.other-index l.lints) l.fn.lint ≡ is_off l.lints l.fn.lint
