use Rattle.std.proofs.Common.{◌≡◌, ◌++◌, drop, map}
use Rattle.isle_check_core.specs.Findings.{of_recursion}
use Rattle.isle_check_core.specs.Views.{findings_of}
use Rattle.isle_check_recursion.specs.Views.{recursions_at}
use Rattle.isle_check_core.proofs.checks.add_recursions.Given as goal

abbrev pub invariant-loop-recursion : goal.invariant-loop-recursion
invariant-loop-recursion l =
    findings_of l.found.items ++ map of_recursion (recursions_at (drop l.recursion-index l.recursions))
    ≡ findings_of l.fn.found.items ++ map of_recursion (recursions_at l.recursions)
