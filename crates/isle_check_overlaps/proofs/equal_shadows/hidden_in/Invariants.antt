use Rattle.std.proofs.Common.{◌≡◌, ◌++◌, drop}
use Rattle.isle_check_overlaps.specs.Candidates.{hides_with_equals}
use Rattle.isle_check_overlaps.specs.Faults.{hidden_by}
use Rattle.isle_check_overlaps.specs.Views.{candidate_of, candidates_at}
use Rattle.isle_check_overlaps.proofs.equal_shadows.hidden_in.Given as goal

abbrev pub invariant-loop-low : goal.invariant-loop-low
invariant-loop-low l =
    l.hidden.items ++ hidden_by hides_with_equals (candidate_of l.high) (candidates_at (drop l.low-index l.group))
    ≡ hidden_by hides_with_equals (candidate_of l.high) (candidates_at l.group)
