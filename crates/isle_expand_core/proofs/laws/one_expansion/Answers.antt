use Rattle.isle_expand_core.proofs.Growth.{expanded_one, expands_one}
use Rattle.isle_expand_core.proofs.laws.one_expansion.Goals as goal

pub returns-clause-pattern : goal.returns-clause-pattern
returns-clause-pattern c = expands_one

pub returns-clause-definitions : goal.returns-clause-definitions
returns-clause-definitions c = expanded_one
