use Rattle.std.proofs.Common.{◌≡◌, IfOk, map, subst}
use Rattle.isle_check_environment.specs.Views.{decls_at}
use Rattle.isle_check_recursion.specs.Recursion.{uses_of}
use Rattle.isle_check_environment.specs.signatures.Views.{environment_of}
use Rattle.isle_check_recursion.proofs.uses.uses_of.Goals as goal

pub returns : goal.returns
returns c =
    subst (λ number. IfOk c.uses_by.result (λ found. map (λ v. v.items) found.items
    ≡ uses_of (environment_of c.args.env.now).templates number (decls_at c.args.decls.now)))
    (λ i text. c.in_ok-numbers.ensures text i) c.uses_by.ensures
