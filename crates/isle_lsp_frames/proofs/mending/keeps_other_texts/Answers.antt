use Rattle.std.proofs.Common.{false}
use Rattle.isle_lsp_frames.proofs.Mendings.{others_kept}
use Rattle.isle_lsp_frames.proofs.mending.keeps_other_texts.Goals as goal

pub returns : goal.returns
returns c = others_kept false
