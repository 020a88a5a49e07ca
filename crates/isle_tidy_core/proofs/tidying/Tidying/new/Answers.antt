use Rattle.isle_tidy_core.proofs.Matching.{refusal_told}
use Rattle.isle_tidy_core.proofs.tidying.Tidying.new.Goals as goal

pub returns-in-Err-clause-refused : goal.returns-in-Err-clause-refused
returns-in-Err-clause-refused c = refusal_told c.args.text.now c.in-Err.fault c.in-Err.ensures.refused
