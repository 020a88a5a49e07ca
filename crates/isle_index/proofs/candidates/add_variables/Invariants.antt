use Rattle.std.proofs.Common.{◌≡◌, ◌++◌, drop, filter, map}
use Rattle.isle_index.specs.Candidates.{begins_with, candidate_of, variable_candidate}
use Rattle.isle_resolve.specs.Scopes.{bounds_of}
use Rattle.isle_index.proofs.candidates.add_variables.Given as goal

abbrev pub invariant-loop-variable : goal.invariant-loop-variable
invariant-loop-variable l =
    map candidate_of l.found.items ++ filter (begins_with l.prefix) (map variable_candidate (bounds_of (drop l.variable-index l.bound)))
    ≡ map candidate_of l.fn.found.items ++ filter (begins_with l.prefix) (map variable_candidate (bounds_of l.bound))
