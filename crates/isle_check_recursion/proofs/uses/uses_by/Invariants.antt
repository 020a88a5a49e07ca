use Rattle.std.proofs.Common.{◌≡◌, ◌++◌, drop, map}
use Rattle.isle_check_environment.specs.Views.{decls_at}
use Rattle.isle_check_recursion.specs.Recursion.{uses_of}
use Rattle.isle_check_recursion.specs.Views.{number_in}
use Rattle.isle_check_environment.specs.signatures.Views.{environment_of}
use Rattle.isle_check_recursion.proofs.uses.uses_by.Given as goal

abbrev pub invariant-loop-decl : goal.invariant-loop-decl
invariant-loop-decl l =
    map (λ v. v.items) l.found.items ++ uses_of (environment_of l.env).templates (number_in l.numbers) (decls_at (drop l.decl-index l.decls))
    ≡ uses_of (environment_of l.env).templates (number_in l.numbers) (decls_at l.decls)
