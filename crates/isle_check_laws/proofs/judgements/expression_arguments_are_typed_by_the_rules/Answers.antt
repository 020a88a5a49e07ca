use Rattle.isle_check_laws.proofs.ExpressionLaws.{arguments_typed}
use Rattle.isle_check_laws.proofs.judgements.expression_arguments_are_typed_by_the_rules.Goals as goal

pub returns : goal.returns
returns c = arguments_typed
