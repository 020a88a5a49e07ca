use Rattle.isle_expand_core.proofs.Free.{expanded_free, pattern_free}
use Rattle.isle_expand_core.proofs.laws.no_use_is_left.Goals as goal

pub returns-clause-pattern : goal.returns-clause-pattern
returns-clause-pattern c = pattern_free

pub returns-clause-definitions : goal.returns-clause-definitions
returns-clause-definitions c = expanded_free
