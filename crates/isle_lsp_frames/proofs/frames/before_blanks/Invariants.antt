use Rattle.std.proofs.Common.{◌≡◌, length, reverse}
use Rattle.isle_lsp_frames.specs.Frames.{after_blanks}
use Rattle.isle_lsp_frames.proofs.frames.before_blanks.Given as goal

abbrev pub invariant-loop-rest : goal.invariant-loop-rest
invariant-loop-rest l = after_blanks (reverse l.rest) ≡ after_blanks (reverse l.value)

abbrev pub decreases-loop-rest : goal.decreases-loop-rest
decreases-loop-rest l = length l.rest
