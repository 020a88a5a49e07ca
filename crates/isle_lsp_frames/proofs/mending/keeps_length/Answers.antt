use Rattle.std.proofs.Common.{false}
use Rattle.isle_lsp_frames.proofs.Mendings.{length_kept}
use Rattle.isle_lsp_frames.proofs.mending.keeps_length.Goals as goal

pub returns : goal.returns
returns c = length_kept false
