use Rattle.std.proofs.Common.{◌≡◌, drop}
use Rattle.isle_check_overlaps.specs.Groups.{asks_at}
use Rattle.isle_check_places.specs.Views.{all_constrained_of, place_of}
use Rattle.isle_check_overlaps.proofs.groups.asks_at.Given as goal

abbrev pub invariant-loop-constrained : goal.invariant-loop-constrained
invariant-loop-constrained l =
    asks_at (place_of l.place) (all_constrained_of (drop l.constrained-index l.constraints)) ≡ asks_at (place_of l.place) (all_constrained_of l.constraints)
