use Rattle.std.proofs.Common.{string_bytes, subst}
use Rattle.isle_c.specs.Refusals.{IsRefusedAt}
use Rattle.isle_c.proofs.calls.refusal_of.Goals as goal

pub returns-clause-ok : goal.returns-clause-ok
returns-clause-ok c =
    let refusal = c.in_ok-refusal.refusal in
    subst (λ text. IsRefusedAt text refusal.place (string_bytes refusal.reason)) c.in_ok-text.ensures.ok.0
    (record { refused = c.in_ok-error.ensures.ok.0; error = c.in_ok-error.error; told = c.in_ok-refusal.ensures })
