use Rattle.isle_check_laws.proofs.TypedRuleLaws.{one_typing}
use Rattle.isle_check_laws.proofs.judgements.rules_have_one_typing.Goals as goal

pub returns : goal.returns
returns c = one_typing
