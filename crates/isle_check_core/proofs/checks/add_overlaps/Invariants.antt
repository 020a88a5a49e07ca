use Rattle.std.proofs.Common.{◌≡◌, ◌++◌, map}
use Rattle.std.specs.Vec.Iter.{into_iter_items}
use Rattle.isle_check_core.specs.Findings.{of_overlap}
use Rattle.isle_check_core.specs.Views.{findings_of}
use Rattle.isle_check_overlaps.specs.Views.{faults_of}
use Rattle.isle_check_core.proofs.checks.add_overlaps.Given as goal

abbrev pub invariant-loop-fault : goal.invariant-loop-fault
invariant-loop-fault l =
    findings_of l.found.items ++ map of_overlap (faults_of (into_iter_items l.fault-iterator))
    ≡ findings_of l.fn.found.items ++ map of_overlap (faults_of l.fn.faults.items)
