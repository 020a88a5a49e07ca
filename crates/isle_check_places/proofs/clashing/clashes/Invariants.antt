use Rattle.std.proofs.Common.{◌≡◌, ◌++◌, [], drop, take}
use Rattle.isle_check_places.specs.Clashes.{clashes_after}
use Rattle.isle_check_places.specs.Views.{all_constrained_of, clashes_of}
use Rattle.isle_check_places.proofs.clashing.clashes.Given as goal

abbrev pub invariant-loop-index : goal.invariant-loop-index
invariant-loop-index l =
    clashes_of l.made.items
    ++ clashes_after (all_constrained_of (take l.index l.constraints)) (all_constrained_of (drop l.index l.constraints))
    ≡ clashes_after [] (all_constrained_of l.constraints)
