use Rattle.isle_lsp_features.proofs.FirstPieces.{whole-piece}
use Rattle.isle_lsp_features.proofs.laws.whole.Goals as goal

pub returns : goal.returns
returns c = whole-piece
