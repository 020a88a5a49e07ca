use Rattle.std.proofs.Common.{subst}
use Rattle.std.proofs.lemmas.Result.{err_from_is_err_and}
use Rattle.isle_c.specs.NoAnswers.{IsTidyFailure}
use Rattle.isle_c.specs.Tidying.{IsWhetherTidy}
use Rattle.isle_c.proofs.tidying.is_tidy.Goals as goal

pub returns-in_err-is_tidy-clause-err : goal.returns-in_err-is_tidy-clause-err
returns-in_err-is_tidy-clause-err c =
    let p = err_from_is_err_and c.from_residual-in_err-is_tidy.result c.from_residual-in_err-is_tidy.ensures.1 in
    rw (p.1, p.2) (subst (λ text. IsTidyFailure text c.in_err-is_tidy.field-0.0) c.in_ok-text.ensures.ok.0 c.in_err-is_tidy.ensures.err)

pub returns-clause-ok : goal.returns-clause-ok
returns-clause-ok c =
    subst (λ text. IsWhetherTidy text c.in_ok-is_tidy.is_tidy) c.in_ok-text.ensures.ok.0 c.in_ok-is_tidy.ensures.ok
