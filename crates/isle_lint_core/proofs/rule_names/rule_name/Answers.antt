use Rattle.std.proofs.Common.{rules, tests}
use Rattle.isle_lint_core.proofs.rule_names.rule_name.Goals as goal

pub returns-in-Rule : goal.returns-in-Rule
returns-in-Rule c = search (tests, rules)
