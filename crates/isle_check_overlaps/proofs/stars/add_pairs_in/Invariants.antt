use Rattle.std.proofs.Common.{◌≡◌, ◌++◌, drop}
use Rattle.isle_check_overlaps.specs.Stars.{pairs_before}
use Rattle.isle_check_overlaps.specs.Views.{candidate_of, candidates_at, pairs_of}
use Rattle.isle_check_overlaps.proofs.stars.add_pairs_in.Given as goal

abbrev pub invariant-loop-other : goal.invariant-loop-other
invariant-loop-other l =
    pairs_of l.made.items ++ pairs_before (candidates_at (drop l.other-index l.group)) (candidate_of l.candidate)
    ≡ pairs_of l.fn.made.items ++ pairs_before (candidates_at l.group) (candidate_of l.candidate)
