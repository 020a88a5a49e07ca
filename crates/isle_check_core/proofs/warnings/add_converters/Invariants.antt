use Rattle.std.proofs.Common.{◌≡◌, ◌++◌, drop, map}
use Rattle.isle_check_core.specs.Findings.{of_converter}
use Rattle.isle_check_core.specs.Views.{findings_of}
use Rattle.isle_check_environment.specs.Views.{converters_at}
use Rattle.isle_check_core.proofs.warnings.add_converters.Given as goal

abbrev pub invariant-loop-converter : goal.invariant-loop-converter
invariant-loop-converter l =
    findings_of l.found.items ++ map of_converter (converters_at (drop l.converter-index l.converters))
    ≡ findings_of l.fn.found.items ++ map of_converter (converters_at l.converters)
