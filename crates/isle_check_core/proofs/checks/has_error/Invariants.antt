use Rattle.std.proofs.Common.{◌≡◌, drop}
use Rattle.isle_check_core.specs.Findings.{has_error}
use Rattle.isle_check_core.specs.Views.{findings_of}
use Rattle.isle_check_core.proofs.checks.has_error.Given as goal

abbrev pub invariant-loop-finding : goal.invariant-loop-finding
invariant-loop-finding l = has_error (findings_of (drop l.finding-index l.found)) ≡ has_error (findings_of l.found)
