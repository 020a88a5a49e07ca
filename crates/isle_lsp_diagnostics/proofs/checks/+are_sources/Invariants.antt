use Rattle.std.proofs.Common.{length}
use Rattle.isle_lsp_diagnostics.proofs.checks.+are_sources.Given as goal

abbrev pub decreases-are_sources : goal.decreases-are_sources
decreases-are_sources l = length l.sources.now
