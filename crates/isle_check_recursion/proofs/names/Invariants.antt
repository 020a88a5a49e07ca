use Rattle.std.proofs.Common.{◌≡◌, ◌++◌, drop}
use Rattle.isle_check_environment.specs.Views.{decls_at}
use Rattle.isle_check_recursion.specs.Recursion.{names}
use Rattle.isle_check_recursion.specs.Views.{names_at}
use Rattle.isle_check_recursion.proofs.names.Given as goal

abbrev pub invariant-loop-place : goal.invariant-loop-place
invariant-loop-place l = names_at l.found.items ++ names (decls_at l.decls) (drop l.place-index l.path) ≡ names (decls_at l.decls) l.path
