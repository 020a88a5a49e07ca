-- No finding so far is this one.
use Rattle.std.proofs.Common.{◌≡◌, drop, map}
use Rattle.isle_lint_core.specs.Finding.{finding_of}
use Rattle.isle_lint.specs.Linted.{found_of, is_among}
use Rattle.isle_lint.proofs.linted.has_told.Given as goal

abbrev pub invariant-loop-other : goal.invariant-loop-other
invariant-loop-other l = is_among (map found_of (drop l.other-index l.told)) (finding_of l.finding) ≡ is_among (map found_of l.told) (finding_of l.finding)
