use Rattle.isle_check_laws.proofs.TypedRuleLaws.{rules_typed}
use Rattle.isle_check_laws.proofs.judgements.rules_are_typed_by_the_rules.Goals as goal

pub returns : goal.returns
returns c = rules_typed
