use Rattle.isle_lsp_features.proofs.FirstPieces.{broken-piece}
use Rattle.isle_lsp_features.proofs.laws.first_error.Goals as goal

pub returns : goal.returns
returns c = broken-piece
