use Rattle.isle_lsp_text.proofs.Walks.{inverse_law}
use Rattle.isle_lsp_text.proofs.laws.inverse.Goals as goal

pub returns : goal.returns
returns c = inverse_law
