use Rattle.std.proofs.Common.{◌≡◌, take}
use Rattle.isle_ast.specs.TreeView.{definitions_of}
use Rattle.isle_check_environment.specs.Parts.{types_in}
use Rattle.isle_check_environment.specs.Views.{types_at}
use Rattle.isle_check_environment.proofs.parts.types_in.Given as goal

abbrev pub invariant-loop-def : goal.invariant-loop-def
invariant-loop-def l = types_at l.found.items ≡ types_in (definitions_of (take l.def-index l.defs))
