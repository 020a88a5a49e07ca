use Rattle.std.proofs.Common.{◌≡◌, drop}
use Rattle.isle_check_places.specs.Following.{stands_for}
use Rattle.isle_check_places.specs.JoinView.{joins_of}
use Rattle.isle_check_places.specs.Views.{place_of}
use Rattle.isle_check_places.proofs.following.stands_for.Given as goal

abbrev pub invariant-loop-join : goal.invariant-loop-join
invariant-loop-join l =
    stands_for (joins_of (drop l.join-index l.joins)) (place_of l.place) ≡ stands_for (joins_of l.joins) (place_of l.at)
