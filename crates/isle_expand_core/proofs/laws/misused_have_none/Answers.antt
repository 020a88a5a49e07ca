use Rattle.isle_expand_core.proofs.Misused.{misused_lacks}
use Rattle.isle_expand_core.proofs.laws.misused_have_none.Goals as goal

pub returns : goal.returns
returns c = λ ds es n f a. misused_lacks ds n f es a
