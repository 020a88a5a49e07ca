use Rattle.std.proofs.Common.{◌≡◌, drop}
use Rattle.std.specs.List.{list_all}
use Rattle.isle_check_places.specs.Following.{are_joined}
use Rattle.isle_check_places.specs.JoinView.{joins_of}
use Rattle.isle_check_places.specs.Views.{all_equalities_of}
use Rattle.isle_check_places.proofs.following.are_all_joined.Given as goal

abbrev pub invariant-loop-equality : goal.invariant-loop-equality
invariant-loop-equality l =
    list_all (are_joined (joins_of l.joins)) (all_equalities_of (drop l.equality-index l.equal))
    ≡ list_all (are_joined (joins_of l.joins)) (all_equalities_of l.equal)
