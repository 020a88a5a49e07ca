use Rattle.std.proofs.Common.{◌≡◌, ◌++◌, drop, map}
use Rattle.isle_check_environment.specs.signatures.Views.{environment_of}
use Rattle.isle_check_overlaps.specs.Faults.{other}
use Rattle.isle_check_overlaps.specs.Views.{candidate_of, candidates_at, others_of}
use Rattle.isle_check_overlaps.proofs.overlaps.told_others.Given as goal

abbrev pub invariant-loop-other : goal.invariant-loop-other
invariant-loop-other l =
    others_of l.made.items ++ map (other (environment_of l.env).terms (candidate_of l.candidate)) (candidates_at (drop l.other-index l.others))
    ≡ map (other (environment_of l.env).terms (candidate_of l.candidate)) (candidates_at l.others)
