use Rattle.std.proofs.Common.{◌≡◌, drop}
use Rattle.isle_check_overlaps.specs.Groups.{only_at}
use Rattle.isle_check_places.specs.Views.{all_constrained_of, place_of}
use Rattle.isle_check_overlaps.proofs.groups.only_at.Given as goal

abbrev pub invariant-loop-index : goal.invariant-loop-index
invariant-loop-index l =
    only_at (place_of l.place) (all_constrained_of (drop l.index l.constraints)) ≡ only_at (place_of l.place) (all_constrained_of l.constraints)
