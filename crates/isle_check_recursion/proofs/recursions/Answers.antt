use Rattle.std.proofs.Common.{◌≡◌, IfOk, ap, subst, ◌∙◌}
use Rattle.isle_ast.specs.TreeView.{definitions_of}
use Rattle.isle_check_environment.specs.Views.{decls_at}
use Rattle.isle_check_recursion.specs.Recursion.{recursions_of}
use Rattle.isle_check_recursion.specs.Views.{recursions_at}
use Rattle.isle_check_environment.specs.signatures.Environment.{environment}
use Rattle.isle_check_recursion.proofs.recursions.Goals as goal

pub returns : goal.returns
returns c =
    let program = definitions_of c.args.defs.now in
    subst (λ ds. IfOk c.recursions_of.result (λ found. recursions_at found.items ≡ recursions_of (environment program).templates ds))
    (ap decls_at c.deref.ensures.value ∙ c.in_ok-decls.ensures)
    (subst (λ env. IfOk c.recursions_of.result (λ found. recursions_at found.items ≡ recursions_of env.templates (decls_at c.deref.result.now)))
    c.requires c.recursions_of.ensures)
