use Rattle.std.proofs.Common.{rules, tests}
use Rattle.isle_fmt.proofs.program.formatted.Goals as goal

pub returns-in_err-width-clause-err : goal.returns-in_err-width-clause-err
returns-in_err-width-clause-err g c = search (tests, rules)

pub returns-in_err-text-clause-err : goal.returns-in_err-text-clause-err
returns-in_err-text-clause-err g c = search (tests, rules)

pub returns-clause-ok : goal.returns-clause-ok
returns-clause-ok g c = search (tests, rules)

pub returns-clause-err : goal.returns-clause-err
returns-clause-err g c = search (tests, rules)
