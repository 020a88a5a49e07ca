use Rattle.std.proofs.Common.{◌≡◌, drop, map}
use Rattle.isle_expand_core.specs.Depth.{settled}
use Rattle.isle_expand_core.specs.Views.{begun_of}
use Rattle.isle_expand_core.proofs.depth.reaches.Given as goal

abbrev pub invariant-loop-place : goal.invariant-loop-place
invariant-loop-place l =
    settled (drop l.place-index l.order) (map begun_of l.templates) l.reaches.items
    ≡ settled l.order (map begun_of l.templates) (map (λ _. 0) (map begun_of l.templates))
