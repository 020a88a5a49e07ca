use Rattle.isle_tidy_core.proofs.Matching.{closed_document, unclosed_within, unclosed_here}
use Rattle.isle_tidy_core.proofs.parentheses.check_end.Goals as goal

pub returns-then-parentheses-eq0-clause-matched : goal.returns-then-parentheses-eq0-clause-matched
returns-then-parentheses-eq0-clause-matched c = closed_document c.args.text.now c.requires.0 c.args.parentheses c.requires.1 c.if-parentheses-eq0.true

pub refusal-requires : goal.refusal-requires
refusal-requires c = unclosed_within c.args.text.now c.requires.0 c.args.parentheses c.requires.1 c.if-parentheses-eq0.false

pub returns-clause-refused : goal.returns-clause-refused
returns-clause-refused c = unclosed_here c.args.text.now c.requires.0 c.args.parentheses c.in_ok-error.error c.requires.1 c.if-parentheses-eq0.false c.in_ok-error.ensures
