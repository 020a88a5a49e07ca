use Rattle.std.proofs.Common.{rules, tests}
use Rattle.isle_cli.proofs.streams.read_more.Goals as goal

pub returns-in-Err-2-clause-grows : goal.returns-in-Err-2-clause-grows
returns-in-Err-2-clause-grows g c = search (tests, rules)

pub returns-in-Err-2-clause-consumed : goal.returns-in-Err-2-clause-consumed
returns-in-Err-2-clause-consumed g c = search (tests, rules)

pub returns-in-Err-2-clause-ended : goal.returns-in-Err-2-clause-ended
returns-in-Err-2-clause-ended g c = search (tests, rules)
