use Rattle.std.proofs.Common.{arith}
use Rattle.isle_tidy_core.proofs.LexemeChecks.{no_blank_here, one_blank_here}
use Rattle.isle_tidy_core.proofs.check_lexemes.start_at.Goals as goal

pub returns-then-bytes-from-gt32-clause-end : goal.returns-then-bytes-from-gt32-clause-end
returns-then-bytes-from-gt32-clause-end c = no_blank_here c.args.bytes.now c.args.from (omega arith) (omega arith)

pub returns-then-bytes-from-gt32-2-clause-end : goal.returns-then-bytes-from-gt32-2-clause-end
returns-then-bytes-from-gt32-2-clause-end c = one_blank_here c.args.bytes.now c.args.from (omega arith) (omega arith) (omega arith)
