use Rattle.std.proofs.Common.{◌≡◌, ◌++◌, [], take, drop}
use Rattle.isle_check_environment.specs.Names.{Knows}
use Rattle.isle_check_environment.specs.Parts.{type_names}
use Rattle.isle_check_environment.specs.Views.{types_at}
use Rattle.isle_check_declarations.specs.TypeFaults.{doubled_types}
use Rattle.isle_check_declarations.specs.Views.{faults_of}
use Rattle.isle_check_declarations.proofs.types.add_doubled_types.Given as goal

abbrev pub invariant-loop-ty : goal.invariant-loop-ty
invariant-loop-ty l =
    Knows l.earlier (type_names (types_at (take l.ty-index l.types)))
    × (faults_of l.found.items ++ doubled_types (type_names (types_at (take l.ty-index l.types))) (types_at (drop l.ty-index l.types))
    ≡ faults_of l.fn.found.items ++ doubled_types [] (types_at l.types))
