use Rattle.isle_lsp_frames.proofs.FileUris.{names_path}
use Rattle.isle_lsp_frames.proofs.uris.names_its_path.Goals as goal

pub returns : goal.returns
returns c = names_path
