use Rattle.std.proofs.Common.{string_bytes, subst}
use Rattle.isle_c.specs.Refusals.{IsUntidiableAt}
use Rattle.isle_c.proofs.tidying.tidy_refusal_of.Goals as goal

pub returns-clause-ok : goal.returns-clause-ok
returns-clause-ok c =
    let refusal = c.in_ok-refusal.refusal in
    let error = c.in_ok-error.ensures.ok in
    subst (λ text. IsUntidiableAt text refusal.place (string_bytes refusal.reason)) c.in_ok-text.ensures.ok.0
    (record { no_document = error.0; error = c.in_ok-error.error; why = error.1; told = c.in_ok-refusal.ensures })
