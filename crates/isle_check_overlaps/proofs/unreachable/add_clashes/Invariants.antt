use Rattle.std.proofs.Common.{◌≡◌, ◌++◌, drop, map}
use Rattle.isle_check_overlaps.specs.Faults.{of_clash}
use Rattle.isle_check_places.specs.Views.{clashes_of}
use Rattle.isle_check_overlaps.specs.Views.{faults_of}
use Rattle.isle_check_overlaps.proofs.unreachable.add_clashes.Given as goal

abbrev pub invariant-loop-clash : goal.invariant-loop-clash
invariant-loop-clash l =
    faults_of l.found.items ++ map (of_clash l.pos) (clashes_of (drop l.clash-index l.clashes))
    ≡ faults_of l.fn.found.items ++ map (of_clash l.pos) (clashes_of l.clashes)
