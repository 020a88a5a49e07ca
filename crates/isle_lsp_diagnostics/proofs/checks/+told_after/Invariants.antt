use Rattle.std.proofs.Common.{length}
use Rattle.isle_lsp_diagnostics.proofs.checks.+told_after.Given as goal

abbrev pub decreases-told_after : goal.decreases-told_after
decreases-told_after l = length l.program.now
