use Rattle.isle_check_laws.proofs.PatternLaws.{patterns_typed}
use Rattle.isle_check_laws.proofs.judgements.patterns_are_typed_by_the_rules.Goals as goal

pub returns : goal.returns
returns c = patterns_typed
