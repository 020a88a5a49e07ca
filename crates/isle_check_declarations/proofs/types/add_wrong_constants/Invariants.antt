use Rattle.std.proofs.Common.{◌≡◌, ◌++◌, take}
use Rattle.isle_check_environment.specs.Types.{is_type_in}
use Rattle.isle_check_environment.specs.Views.{constants_at}
use Rattle.isle_check_declarations.specs.TypeFaults.{wrong_constants}
use Rattle.isle_check_declarations.specs.Views.{faults_of}
use Rattle.isle_check_declarations.proofs.types.add_wrong_constants.Given as goal

abbrev pub invariant-loop-constant : goal.invariant-loop-constant
invariant-loop-constant l =
    faults_of l.found.items
    ≡ faults_of l.fn.found.items ++ wrong_constants (is_type_in l.known) (constants_at (take l.constant-index l.constants))
