use Rattle.std.proofs.Common.{ap, ◌∙◌}
use Rattle.std.proofs.lemmas.Result.{IfOk-weaker}
use Rattle.isle_check_recursion.specs.Conversions.{needs_of}
use Rattle.isle_check_environment.specs.Views.{converters_at}
use Rattle.isle_check_environment.specs.signatures.Views.{environment_of}
use Rattle.isle_check_recursion.proofs.conversions.needs.Goals as goal

pub returns : goal.returns
returns c =
    let cs = converters_at c.args.converters.now in
    IfOk-weaker c.needs_of.result _ _
    (λ found told.
    told ∙ ap (λ numbers. needs_of numbers (environment_of c.args.env.now).terms cs) (λ i inner outer. c.in_ok-numbers.ensures inner outer i))
    c.needs_of.ensures
