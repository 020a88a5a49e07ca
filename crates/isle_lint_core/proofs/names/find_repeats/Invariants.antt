use Rattle.std.proofs.Common.{◌≡◌, ◌++◌, List, drop}
use Rattle.isle_ast_names.specs.Tree.{Name}
use Rattle.isle_lint_core.specs.Names.{names_at, repeated}
use Rattle.isle_lint_core.specs.Seen.{Knows}
use Rattle.isle_lint_core.proofs.names.find_repeats.Given as goal

-- the names found, and those to be found among the names to come, are all
abbrev pub invariant-loop-name : goal.invariant-loop-name
invariant-loop-name l =
    (earlier : List Name) → Knows l.fn.seen earlier
    → (known : List Name) × Knows l.seen known
    × (names_at l.found.items ++ repeated known (names_at (drop l.name-index l.names)) ≡ repeated earlier (names_at l.names))
