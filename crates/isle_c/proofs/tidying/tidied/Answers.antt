use Rattle.std.proofs.Common.{string_bytes, subst}
use Rattle.std.proofs.lemmas.Result.{err_from_is_err_and}
use Rattle.isle_c.specs.NoAnswers.{IsTidyFailure}
use Rattle.isle_tidy_core.specs.Tidied.{IsTidyTextOf}
use Rattle.isle_c.proofs.tidying.tidied.Goals as goal

pub returns-in_err-answer-clause-err : goal.returns-in_err-answer-clause-err
returns-in_err-answer-clause-err c =
    let p = err_from_is_err_and c.from_residual-in_err-answer.result c.from_residual-in_err-answer.ensures.1 in
    rw (p.1, p.2) (subst (λ text. IsTidyFailure text c.in_err-answer.field-0.0) c.in_ok-text.ensures.ok.0 c.in_err-answer.ensures.err)

pub returns-clause-ok : goal.returns-clause-ok
returns-clause-ok c =
    subst (λ text. IsTidyTextOf text (string_bytes c.in_ok-answer.answer)) c.in_ok-text.ensures.ok.0 c.in_ok-answer.ensures.ok
