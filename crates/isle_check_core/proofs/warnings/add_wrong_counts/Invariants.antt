use Rattle.std.proofs.Common.{◌≡◌, ◌++◌, drop}
use Rattle.isle_check_core.specs.Findings.{wrong_counts}
use Rattle.isle_check_core.specs.Views.{findings_of}
use Rattle.isle_check_environment.specs.Views.{extractors_at}
use Rattle.isle_check_environment.specs.signatures.Views.{environment_of}
use Rattle.isle_check_core.proofs.warnings.add_wrong_counts.Given as goal

abbrev pub invariant-loop-extractor : goal.invariant-loop-extractor
invariant-loop-extractor l =
    findings_of l.found.items ++ wrong_counts (environment_of l.env) (extractors_at (drop l.extractor-index l.extractors))
    ≡ findings_of l.fn.found.items ++ wrong_counts (environment_of l.env) (extractors_at l.extractors)
