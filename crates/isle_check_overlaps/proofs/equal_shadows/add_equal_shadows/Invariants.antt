use Rattle.std.proofs.Common.{◌≡◌, ◌++◌, drop}
use Rattle.std.specs.List.{flat_map}
use Rattle.isle_check_overlaps.specs.Faults.{equal_shadow_at}
use Rattle.isle_check_overlaps.specs.Views.{candidates_of, faults_of}
use Rattle.isle_check_overlaps.proofs.equal_shadows.add_equal_shadows.Given as goal

abbrev pub invariant-loop-candidate : goal.invariant-loop-candidate
invariant-loop-candidate l =
    faults_of l.found.items ++ flat_map (equal_shadow_at (candidates_of l.candidates)) (candidates_of (drop l.candidate-index l.candidates))
    ≡ faults_of l.fn.found.items ++ flat_map (equal_shadow_at (candidates_of l.candidates)) (candidates_of l.candidates)
