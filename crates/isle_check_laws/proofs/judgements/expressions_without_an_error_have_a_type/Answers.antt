use Rattle.isle_check_laws.proofs.ExpressionSoundness.{sound}
use Rattle.isle_check_laws.proofs.judgements.expressions_without_an_error_have_a_type.Goals as goal

pub returns : goal.returns
returns c = sound
