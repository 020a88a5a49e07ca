use Rattle.isle_lsp_text.proofs.Units.{bytes_law}
use Rattle.isle_lsp_text.proofs.laws.are_bytes.Goals as goal

pub returns : goal.returns
returns c = bytes_law
