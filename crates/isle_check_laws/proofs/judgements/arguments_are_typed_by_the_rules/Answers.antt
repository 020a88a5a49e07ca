use Rattle.isle_check_laws.proofs.PatternLaws.{arguments_typed}
use Rattle.isle_check_laws.proofs.judgements.arguments_are_typed_by_the_rules.Goals as goal

pub returns : goal.returns
returns c = arguments_typed
