use Rattle.std.proofs.Common.{rules, tests}
use Rattle.isle_cli.proofs.FailureLemmas.{fails_reading}
use Rattle.isle_cli.proofs.failure.FailureFromReadFault.from.Goals as goal

pub returns-in-Memory : goal.returns-in-Memory
returns-in-Memory c = search (tests, rules)

pub returns-in_default : goal.returns-in_default
returns-in_default c = fails_reading c.args.fault c.in_default.not-Memory
