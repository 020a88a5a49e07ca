use Rattle.isle_lsp_protocol.proofs.Folders.{with_folders, without_folders}
use Rattle.isle_lsp_protocol.proofs.parameters.folders_with.Goals as goal

pub returns-then-is_empty : goal.returns-then-is_empty
returns-then-is_empty c = rw (without_folders _ _ c.if-is_empty.ensures) c.root_of.ensures

pub returns : goal.returns
returns c = rw (with_folders _ _ c.if-is_empty.ensures) c.uris_in.ensures
