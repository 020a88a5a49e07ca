use Rattle.std.proofs.Common.{rules, tests}
use Rattle.isle_lint_core.proofs.names.is_private.Goals as goal

pub returns-in-len1-up : goal.returns-in-len1-up
returns-in-len1-up c = search (tests, rules)
