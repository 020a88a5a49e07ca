use Rattle.isle_tidy_core.proofs.Matching.{other_read}
use Rattle.isle_tidy_core.proofs.parentheses.Parentheses.counted.Goals as goal

pub returns-in_default-clause-some : goal.returns-in_default-clause-some
returns-in_default-clause-some c = λ taken x h is place. other_read taken c.args.self x c.args.token.now h is c.in_default.not-LParen c.in_default.not-RParen
