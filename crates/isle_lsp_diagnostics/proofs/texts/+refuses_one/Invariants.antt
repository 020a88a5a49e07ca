use Rattle.std.proofs.Common.{length}
use Rattle.isle_lsp_diagnostics.proofs.texts.+refuses_one.Given as goal

abbrev pub decreases-refuses_one : goal.decreases-refuses_one
decreases-refuses_one l = length l.program.now
