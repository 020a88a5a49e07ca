use Rattle.isle_lsp_frames.proofs.Laws.{frame_again}
use Rattle.isle_lsp_frames.proofs.frames.reads_back.Goals as goal

pub returns : goal.returns
returns c = frame_again
