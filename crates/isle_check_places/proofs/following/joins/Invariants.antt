use Rattle.std.proofs.Common.{◌≡◌, [], drop}
use Rattle.isle_check_places.specs.Following.{joins_after}
use Rattle.isle_check_places.specs.JoinView.{joins_of}
use Rattle.isle_check_places.specs.Views.{all_equalities_of}
use Rattle.isle_check_places.proofs.following.joins.Given as goal

abbrev pub invariant-loop-equality : goal.invariant-loop-equality
invariant-loop-equality l =
    joins_after (joins_of l.made.items) (all_equalities_of (drop l.equality-index l.equal)) ≡ joins_after [] (all_equalities_of l.equal)
