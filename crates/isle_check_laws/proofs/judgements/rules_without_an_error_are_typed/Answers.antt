use Rattle.isle_check_laws.proofs.TypedRuleLaws.{known_typed}
use Rattle.isle_check_laws.proofs.judgements.rules_without_an_error_are_typed.Goals as goal

pub returns : goal.returns
returns c = known_typed
