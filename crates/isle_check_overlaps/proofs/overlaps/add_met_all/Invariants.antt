use Rattle.std.proofs.Common.{◌≡◌, ◌++◌, drop}
use Rattle.std.specs.List.{flat_map}
use Rattle.isle_check_environment.specs.signatures.Views.{environment_of}
use Rattle.isle_check_overlaps.specs.Faults.{met_at}
use Rattle.isle_check_overlaps.specs.Views.{candidates_of, faults_of, stars_of}
use Rattle.isle_check_overlaps.proofs.overlaps.add_met_all.Given as goal

abbrev pub invariant-loop-candidate : goal.invariant-loop-candidate
invariant-loop-candidate l =
    faults_of l.found.items ++ flat_map (met_at (environment_of l.env).terms (stars_of l.stars) (candidates_of l.candidates)) (candidates_of (drop l.candidate-index l.candidates))
    ≡ faults_of l.fn.found.items ++ flat_map (met_at (environment_of l.env).terms (stars_of l.stars) (candidates_of l.candidates)) (candidates_of l.candidates)
