use Rattle.std.proofs.Common.{rules, tests}
use Rattle.isle_c.proofs.isle_c_version.Goals as goal

pub returns : goal.returns
returns c = search (tests, rules)
