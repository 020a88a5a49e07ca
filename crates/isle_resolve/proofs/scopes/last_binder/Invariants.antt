use Rattle.std.proofs.Common.{◌≡◌, drop}
use Rattle.isle_resolve.specs.Scopes.{bounds_of, last_bound, or_else}
use Rattle.isle_resolve.proofs.scopes.last_binder.Given as goal

abbrev pub invariant-loop-variable : goal.invariant-loop-variable
invariant-loop-variable l =
    or_else (last_bound (bounds_of (drop l.variable-index l.bound)) l.text) l.last ≡ last_bound (bounds_of l.bound) l.text
