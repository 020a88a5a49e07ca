use Rattle.std.proofs.Common.{◌≡◌, ◌++◌, take}
use Rattle.isle_check_environment.specs.Types.{is_type_in}
use Rattle.isle_check_environment.specs.Views.{types_at}
use Rattle.isle_check_declarations.specs.TypeFaults.{wrong_types}
use Rattle.isle_check_declarations.specs.Views.{faults_of}
use Rattle.isle_check_declarations.proofs.types.add_wrong_types.Given as goal

abbrev pub invariant-loop-ty : goal.invariant-loop-ty
invariant-loop-ty l =
    faults_of l.found.items ≡ faults_of l.fn.found.items ++ wrong_types (is_type_in l.known) (types_at (take l.ty-index l.types))
