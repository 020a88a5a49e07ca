use Rattle.std.proofs.Common.{◌≡◌, drop, false, get_or}
use Rattle.isle_check_recursion.specs.Recursion.{endless, endless_after}
use Rattle.isle_check_recursion.proofs.walks.endless.Given as goal

abbrev pub invariant-loop-place : goal.invariant-loop-place
invariant-loop-place l =
    endless_after (λ p. get_or l.ends p false) l.greatest (drop l.place-index l.places) ≡ endless (λ p. get_or l.ends p false) l.places
