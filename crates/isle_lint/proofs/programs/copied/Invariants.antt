-- The findings so far, and then the others, are all.
use Rattle.std.proofs.Common.{◌≡◌, ◌++◌, drop, map}
use Rattle.isle_lint_core.specs.Finding.{finding_of}
use Rattle.isle_lint.specs.Linted.{found_of}
use Rattle.isle_lint.proofs.programs.copied.Given as goal

abbrev pub invariant-loop-finding : goal.invariant-loop-finding
invariant-loop-finding l = map found_of l.all.items ++ map finding_of (drop l.finding-index l.told) ≡ map finding_of l.told
