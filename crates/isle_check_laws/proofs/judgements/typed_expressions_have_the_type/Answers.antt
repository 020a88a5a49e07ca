use Rattle.isle_check_laws.proofs.ExpressionTypes.{type_kept}
use Rattle.isle_check_laws.proofs.judgements.typed_expressions_have_the_type.Goals as goal

pub returns : goal.returns
returns c = type_kept
