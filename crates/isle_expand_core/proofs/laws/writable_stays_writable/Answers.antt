use Rattle.isle_expand_core.proofs.Writing.{expanded_writable}
use Rattle.isle_expand_core.proofs.laws.writable_stays_writable.Goals as goal

pub returns : goal.returns
returns c = expanded_writable
