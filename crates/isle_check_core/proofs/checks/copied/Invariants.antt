use Rattle.std.proofs.Common.{◌≡◌, ◌++◌, drop}
use Rattle.isle_check_recursion.specs.Views.{names_at}
use Rattle.isle_check_core.proofs.checks.copied.Given as goal

abbrev pub invariant-loop-name : goal.invariant-loop-name
invariant-loop-name l = names_at l.made.items ++ names_at (drop l.name-index l.path) ≡ names_at l.path
