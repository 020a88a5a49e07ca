use Rattle.isle_lsp_text.proofs.Units.{units_law}
use Rattle.isle_lsp_text.proofs.laws.are_utf16.Goals as goal

pub returns : goal.returns
returns c = units_law
