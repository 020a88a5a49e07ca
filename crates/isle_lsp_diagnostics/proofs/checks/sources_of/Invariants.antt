use Rattle.std.proofs.Common.{◌≡◌, map, take}
use Rattle.isle_cli.specs.Sources as code
use Rattle.isle_lsp_features.specs.Programs.{text_of}
use Rattle.isle_lsp_diagnostics.specs.Checked.{sources_of}
use Rattle.isle_lsp_diagnostics.proofs.checks.sources_of.Given as goal

abbrev pub invariant-loop-source : goal.invariant-loop-source
invariant-loop-source l = map code.source_of l.sources.items ≡ sources_of (map text_of (take l.source-index l.program))
