use Rattle.isle_check_laws.proofs.PatternTypes.{type_kept}
use Rattle.isle_check_laws.proofs.judgements.typed_patterns_have_the_type.Goals as goal

pub returns : goal.returns
returns c = type_kept
