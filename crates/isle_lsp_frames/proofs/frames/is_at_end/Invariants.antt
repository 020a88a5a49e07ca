use Rattle.std.specs.Io.KnownBytes.{Keeps}
use Rattle.isle_lsp_frames.proofs.frames.is_at_end.Given as goal

abbrev pub invariant-loop : goal.invariant-loop
invariant-loop g l = Keeps (g.R.Read.remaining l.initial.input) (g.R.Read.remaining l.input)
