use Rattle.std.proofs.Common.{take}
use Rattle.isle_check_environment.specs.Names.{Knows}
use Rattle.isle_check_environment.specs.Parts.{type_names}
use Rattle.isle_check_environment.specs.Views.{types_at}
use Rattle.isle_check_environment.proofs.types.type_names.Given as goal

abbrev pub invariant-loop-ty : goal.invariant-loop-ty
invariant-loop-ty l = Knows l.names (type_names (types_at (take l.ty-index l.types)))
