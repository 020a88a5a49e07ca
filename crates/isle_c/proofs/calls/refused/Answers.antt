use Rattle.std.proofs.Common.{subst}
use Rattle.isle_syntax.specs.Format.{IsRefused}
use Rattle.isle_c.proofs.calls.refused.Goals as goal

pub returns-clause-ok : goal.returns-clause-ok
returns-clause-ok c =
    let text = c.in_ok-text.ensures.ok in
    (text.1, subst IsRefused text.0 c.in_ok-error.ensures.ok.0)
