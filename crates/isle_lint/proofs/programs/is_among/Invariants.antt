-- No finding so far is this one.
use Rattle.std.proofs.Common.{◌≡◌, drop, map}
use Rattle.isle_lint_core.specs.Finding.{finding_of}
use Rattle.isle_lint.specs.Linted.{is_among}
use Rattle.isle_lint.proofs.programs.is_among.Given as goal

abbrev pub invariant-loop-other : goal.invariant-loop-other
invariant-loop-other l = is_among (map finding_of (drop l.other-index l.all)) (finding_of l.finding) ≡ is_among (map finding_of l.all) (finding_of l.finding)
