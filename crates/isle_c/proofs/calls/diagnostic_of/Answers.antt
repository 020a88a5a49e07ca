use Rattle.std.proofs.Common.{string_bytes}
use Rattle.isle_c.proofs.RefusalLemmas.{diagnostic_of_bytes}
use Rattle.isle_c.proofs.calls.diagnostic_of.Goals as goal

pub returns-clause-ok : goal.returns-clause-ok
returns-clause-ok c =
    diagnostic_of_bytes c.in_ok-name.name.now c.args.name.now c.in_ok-text.text.now c.args.text.now
    (string_bytes c.in_ok-shown.shown) c.in_ok-error.error
    c.in_ok-name.ensures.ok.0 c.in_ok-text.ensures.ok.0 c.in_ok-error.ensures.ok c.in_ok-shown.ensures
