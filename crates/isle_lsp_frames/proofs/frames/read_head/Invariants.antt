use Rattle.std.proofs.Common.{◌≡◌, ℕ, List, Some}
use Rattle.isle_lsp_frames.proofs.Heads.{Reads}
use Rattle.isle_lsp_frames.proofs.frames.read_head.Given as goal

abbrev pub invariant-loop : goal.invariant-loop
invariant-loop g l = (bytes : List ℕ) → g.R.Read.remaining l.initial.input ≡ Some bytes → Reads bytes l.counter l.known (g.R.Read.remaining l.input)
