use Rattle.std.proofs.Common.{◌≡◌, ◌++◌, drop, map}
use Rattle.std.specs.List.{filter}
use Rattle.isle_check_overlaps.specs.Stars.{other_than, touches}
use Rattle.isle_check_overlaps.specs.Views.{candidates_at, pairs_of}
use Rattle.isle_check_overlaps.proofs.stars.star_around.Given as goal

abbrev pub invariant-loop-pair : goal.invariant-loop-pair
invariant-loop-pair l =
    candidates_at l.others.items ++ map (other_than l.number) (filter (touches l.number) (pairs_of (drop l.pair-index l.pairs)))
    ≡ map (other_than l.number) (filter (touches l.number) (pairs_of l.pairs))
