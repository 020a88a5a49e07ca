use Rattle.isle_tidy_core.proofs.Unique.{IsDocument-unique}
use Rattle.isle_tidy_core.proofs.laws.one_document.Goals as goal

pub returns : goal.returns
returns c = IsDocument-unique
