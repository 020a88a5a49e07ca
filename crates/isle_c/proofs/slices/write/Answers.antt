use Rattle.std.proofs.Common.{rules, tests}
use Rattle.isle_c.proofs.slices.write.Goals as goal

pub returns-then-len-into-clause-too_short : goal.returns-then-len-into-clause-too_short
returns-then-len-into-clause-too_short c = search (tests, rules)

pub returns-clause-written : goal.returns-clause-written
returns-clause-written c = search (tests, rules)
