use Rattle.std.proofs.Common.{◌≡◌, IfOk, ap, map, subst, ◌∙◌}
use Rattle.isle_check_environment.specs.Views.{decls_at}
use Rattle.isle_check_recursion.specs.Recursion.{recursions_from}
use Rattle.isle_check_recursion.specs.Views.{recursions_at}
use Rattle.isle_check_environment.specs.signatures.Views.{environment_of}
use Rattle.isle_check_recursion.proofs.recursions_of.Goals as goal

pub returns : goal.returns
returns c =
    let ds = decls_at c.args.decls.now in
    subst (λ next. IfOk c.collected.result (λ found. recursions_at found.items ≡ recursions_from (environment_of c.args.env.now).templates ds next 0 ds))
    (ap (map (λ v. v.items)) c.deref-2.ensures.value ∙ c.in_ok-next.ensures) c.collected.ensures
