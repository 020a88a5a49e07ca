use Rattle.std.proofs.Common.{◌≡◌, ◌++◌, [], drop, map, take}
use Rattle.isle_check_core.specs.Findings.{doubled_constants}
use Rattle.isle_check_core.specs.Views.{findings_of}
use Rattle.isle_check_environment.specs.Names.{Knows}
use Rattle.isle_check_environment.specs.Views.{constants_at}
use Rattle.isle_check_core.proofs.warnings.add_doubled_constants.Given as goal

abbrev pub invariant-loop-constant : goal.invariant-loop-constant
invariant-loop-constant l =
    Knows l.earlier (map (λ c. c.name) (constants_at (take l.constant-index l.constants)))
    × (findings_of l.found.items ++ doubled_constants (map (λ c. c.name) (constants_at (take l.constant-index l.constants))) (constants_at (drop l.constant-index l.constants))
    ≡ findings_of l.fn.found.items ++ doubled_constants [] (constants_at l.constants))
