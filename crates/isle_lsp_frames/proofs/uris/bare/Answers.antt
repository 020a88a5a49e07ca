use Rattle.isle_lsp_frames.proofs.FileUris.{bare_whole}
use Rattle.isle_lsp_frames.proofs.uris.bare.Goals as goal

pub returns : goal.returns
returns c = bare_whole _ _ c.loop-i-test.false c.loop-i.invariant
