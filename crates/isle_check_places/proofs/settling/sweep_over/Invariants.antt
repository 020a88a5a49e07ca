use Rattle.std.proofs.Common.{◌≡◌}
use Rattle.std.specs.Vec.Iter.{into_iter_items}
use Rattle.isle_check_places.specs.Settling.{begun, sweep}
use Rattle.isle_check_places.specs.Views.{all_constrained_of, all_equalities_of, sweep_of}
use Rattle.isle_check_places.proofs.settling.sweep_over.Given as goal

abbrev pub invariant-loop-equality : goal.invariant-loop-equality
invariant-loop-equality l =
    sweep (sweep_of l.made) (all_equalities_of (into_iter_items l.equality-iterator))
    ≡ sweep (begun (all_constrained_of l.fn.constraints.items)) (all_equalities_of l.fn.equal.items)
