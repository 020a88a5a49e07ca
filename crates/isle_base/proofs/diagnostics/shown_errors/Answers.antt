use Rattle.std.proofs.Common.{rules, tests}
use Rattle.isle_base.proofs.diagnostics.shown_errors.Goals as goal

pub new-errors-requires : goal.new-errors-requires
new-errors-requires c = search (tests, rules)

pub returns : goal.returns
returns c = search (tests, rules)
