use Rattle.std.proofs.Common.{◌≡◌, ◌++◌, length}
use Rattle.isle_lsp_frames.specs.Mending.{mended, mended_after}
use Rattle.isle_lsp_frames.proofs.mending.mended.Given as goal

abbrev pub invariant-loop-rest : goal.invariant-loop-rest
invariant-loop-rest l = mended l.body ≡ l.mended.items ++ mended_after l.paired l.rest

abbrev pub decreases-loop-rest : goal.decreases-loop-rest
decreases-loop-rest l = length l.rest
