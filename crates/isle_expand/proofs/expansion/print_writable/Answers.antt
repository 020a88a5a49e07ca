use Rattle.std.proofs.Common.{rules, tests}
use Rattle.isle_expand.proofs.expansion.print_writable.Goals as goal

pub returns-in-Ok-clause-printed : goal.returns-in-Ok-clause-printed
returns-in-Ok-clause-printed c = search (tests, rules)
