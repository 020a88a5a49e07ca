use Rattle.std.proofs.Common.{◌≡◌, ◌++◌, drop, map}
use Rattle.isle_check_environment.specs.Views.{decls_at}
use Rattle.isle_check_recursion.specs.Recursion.{recursions_from}
use Rattle.isle_check_recursion.specs.Views.{recursions_at}
use Rattle.isle_check_environment.specs.signatures.Views.{environment_of}
use Rattle.isle_check_recursion.proofs.collected.Given as goal

abbrev pub invariant-loop-root : goal.invariant-loop-root
invariant-loop-root l =
    recursions_at l.found.items
    ++ recursions_from (environment_of l.env).templates (decls_at l.decls) (map (λ v. v.items) l.next) l.root (decls_at (drop l.root l.decls))
    ≡ recursions_from (environment_of l.env).templates (decls_at l.decls) (map (λ v. v.items) l.next) 0 (decls_at l.decls)
