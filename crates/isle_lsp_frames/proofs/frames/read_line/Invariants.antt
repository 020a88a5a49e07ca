use Rattle.std.proofs.Common.{◌≡◌, ℕ, List, length, Some}
use Rattle.isle_lsp_frames.proofs.Lines.{HasCome}
use Rattle.isle_lsp_frames.proofs.frames.read_line.Given as goal

abbrev pub invariant-loop : goal.invariant-loop
invariant-loop g l = record {
  read : (bytes : List ℕ) → g.R.Read.remaining l.initial.input ≡ Some bytes → HasCome bytes l.line.items (g.R.Read.remaining l.input);
  count : length l.line.items ≡ l.counter;
}
