use Rattle.std.proofs.Common.{◌≡◌, ◌++◌, take, drop}
use Rattle.isle_lsp_frames.specs.Uris.{bare}
use Rattle.isle_lsp_frames.proofs.uris.bare.Given as goal

abbrev pub invariant-loop-i : goal.invariant-loop-i
invariant-loop-i l = bare l.text ≡ take l.i l.text ++ bare (drop l.i l.text)
