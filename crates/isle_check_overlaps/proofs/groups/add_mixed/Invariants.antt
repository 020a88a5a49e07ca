use Rattle.std.proofs.Common.{◌≡◌, ◌++◌, drop}
use Rattle.isle_check_overlaps.specs.Groups.{all_ranked_of, mixed}
use Rattle.isle_check_overlaps.specs.Views.{candidates_at}
use Rattle.isle_check_overlaps.proofs.groups.add_mixed.Given as goal

abbrev pub invariant-loop-ranked : goal.invariant-loop-ranked
invariant-loop-ranked l =
    candidates_at l.made.items ++ mixed l.passed (all_ranked_of (drop l.ranked-index l.same)) (candidates_at l.free)
    ≡ candidates_at l.fn.made.items ++ mixed 0 (all_ranked_of l.same) (candidates_at l.free)
