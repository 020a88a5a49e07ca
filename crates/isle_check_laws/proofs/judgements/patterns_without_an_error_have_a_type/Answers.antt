use Rattle.isle_check_laws.proofs.PatternSoundness.{sound}
use Rattle.isle_check_laws.proofs.judgements.patterns_without_an_error_have_a_type.Goals as goal

pub returns : goal.returns
returns c = sound
