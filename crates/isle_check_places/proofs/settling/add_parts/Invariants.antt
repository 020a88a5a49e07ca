use Rattle.std.proofs.Common.{◌≡◌, ◌++◌}
use Rattle.isle_check_places.specs.Settling.{equal_fields}
use Rattle.isle_check_places.specs.Views.{all_equalities_of, equality_of}
use Rattle.isle_check_places.proofs.settling.add_parts.Given as goal

abbrev pub invariant-loop-index : goal.invariant-loop-index
invariant-loop-index l =
    all_equalities_of l.equal.items
    ≡ all_equalities_of l.fn.equal.items ++ equal_fields (equality_of l.equality) l.variant l.index
