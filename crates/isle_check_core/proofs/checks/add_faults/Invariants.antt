use Rattle.std.proofs.Common.{◌≡◌, ◌++◌, drop}
use Rattle.isle_check_core.specs.Findings.{of_faults}
use Rattle.isle_check_core.specs.Views.{findings_of}
use Rattle.isle_check_declarations.specs.Views.{faults_of}
use Rattle.isle_check_core.proofs.checks.add_faults.Given as goal

abbrev pub invariant-loop-fault : goal.invariant-loop-fault
invariant-loop-fault l =
    findings_of l.found.items ++ of_faults (faults_of (drop l.fault-index l.faults)) ≡ findings_of l.fn.found.items ++ of_faults (faults_of l.faults)
