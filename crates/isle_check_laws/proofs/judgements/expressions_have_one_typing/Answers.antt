use Rattle.isle_check_laws.proofs.ExpressionLaws.{one_typing}
use Rattle.isle_check_laws.proofs.judgements.expressions_have_one_typing.Goals as goal

pub returns : goal.returns
returns c = one_typing
