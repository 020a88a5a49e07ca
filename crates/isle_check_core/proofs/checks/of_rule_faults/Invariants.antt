use Rattle.std.proofs.Common.{◌≡◌, ◌++◌, map}
use Rattle.std.specs.Vec.Iter.{into_iter_items}
use Rattle.isle_check_core.specs.Findings.{of_rule_fault}
use Rattle.isle_check_core.specs.Views.{findings_of}
use Rattle.isle_check_typing.specs.Views.{faults_of}
use Rattle.isle_check_core.proofs.checks.of_rule_faults.Given as goal

abbrev pub invariant-loop-fault : goal.invariant-loop-fault
invariant-loop-fault l =
    findings_of l.found.items ++ map of_rule_fault (faults_of (into_iter_items l.fault-iterator)) ≡ map of_rule_fault (faults_of l.fn.faults.items)
