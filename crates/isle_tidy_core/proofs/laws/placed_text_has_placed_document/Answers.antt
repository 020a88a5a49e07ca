use Rattle.isle_tidy_core.proofs.Keeps.{placed_keeps}
use Rattle.isle_tidy_core.proofs.laws.placed_text_has_placed_document.Goals as goal

pub returns : goal.returns
returns c = placed_keeps
