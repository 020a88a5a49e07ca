use Rattle.isle_check_laws.proofs.ExpressionLaws.{expressions_typed}
use Rattle.isle_check_laws.proofs.judgements.expressions_are_typed_by_the_rules.Goals as goal

pub returns : goal.returns
returns c = expressions_typed
