use Rattle.std.proofs.Common.{rules, tests}
use Rattle.isle_base.proofs.diagnostics.diagnostic.Goals as goal

pub returns : goal.returns
returns c = search (tests, rules)
