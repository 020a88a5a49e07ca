use Rattle.std.proofs.Common.{◌≡◌, drop}
use Rattle.isle_check_environment.specs.Views.{extractors_at}
use Rattle.isle_check_environment.specs.signatures.Views.{environment_of}
use Rattle.isle_lsp_diagnostics.specs.Rules.{have_variant}
use Rattle.isle_lsp_diagnostics.proofs.rules.have_variant.Given as goal

abbrev pub invariant-loop-extractor : goal.invariant-loop-extractor
invariant-loop-extractor l =
    have_variant (environment_of l.env) (extractors_at (drop l.extractor-index l.extractors)) ≡ have_variant (environment_of l.env) (extractors_at l.extractors)
