use Rattle.std.proofs.Common.{◌≡◌, ◌++◌, drop}
use Rattle.std.specs.List.{flat_map}
use Rattle.isle_check_environment.specs.signatures.Views.{environment_of}
use Rattle.isle_check_overlaps.specs.Faults.{star_at}
use Rattle.isle_check_overlaps.specs.Views.{candidate_of, faults_of, stars_of}
use Rattle.isle_check_overlaps.proofs.overlaps.add_stars.Given as goal

abbrev pub invariant-loop-star : goal.invariant-loop-star
invariant-loop-star l =
    faults_of l.found.items ++ flat_map (star_at (environment_of l.env).terms (candidate_of l.candidate)) (stars_of (drop l.star-index l.stars))
    ≡ faults_of l.fn.found.items ++ flat_map (star_at (environment_of l.env).terms (candidate_of l.candidate)) (stars_of l.stars)
