use Rattle.std.proofs.Common.{◌≡◌, drop, map}
use Rattle.isle_expand_core.specs.Order.{expand_places}
use Rattle.isle_expand_core.specs.Views.{begun_of, macros_of}
use Rattle.isle_expand_core.proofs.macros.expansions.Given as goal

abbrev pub invariant-loop-place : goal.invariant-loop-place
invariant-loop-place l =
    expand_places (drop l.place-index l.order) (macros_of l.macros.items) ≡ expand_places l.order (map begun_of l.templates)
