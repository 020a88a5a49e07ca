use Rattle.std.proofs.Common.{[]}
use Rattle.isle_base.specs.Token.{fault}
use Rattle.isle_program.proofs.openings.openings.Goals as goal

pub returns-in-Err-Error-clause-exact : goal.returns-in-Err-Error-clause-exact
returns-in-Err-Error-clause-exact c =
    let refused = rw c.in-Err-Error.field-0-is at c.in-Err-Error.ensures.refused in
    record { tokens = []; ending = fault refused.0; lexed = refused.1; is = c.new-in-Err-Error.ensures.items }
