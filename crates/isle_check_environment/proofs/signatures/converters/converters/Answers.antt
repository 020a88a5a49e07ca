use Rattle.std.proofs.Common.{ap, ◌∙◌}
use Rattle.std.proofs.lemmas.Result.{IfOk-weaker}
use Rattle.isle_check_environment.specs.Views.{converters_at}
use Rattle.isle_check_environment.specs.signatures.Environment.{converting}
use Rattle.isle_check_environment.proofs.signatures.converters.converters.Goals as goal

pub returns : goal.returns
returns c =
    IfOk-weaker c.terms_of.result _ _
    (λ terms converts inner outer.
    converts inner outer ∙ ap (λ cs. converting cs inner outer) (ap converters_at c.deref.ensures.value ∙ c.in_ok-converters.ensures))
    c.terms_of.ensures
