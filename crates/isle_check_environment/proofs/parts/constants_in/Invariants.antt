use Rattle.std.proofs.Common.{◌≡◌, take}
use Rattle.isle_ast.specs.TreeView.{definitions_of}
use Rattle.isle_check_environment.specs.Parts.{constants_in}
use Rattle.isle_check_environment.specs.Views.{constants_at}
use Rattle.isle_check_environment.proofs.parts.constants_in.Given as goal

abbrev pub invariant-loop-def : goal.invariant-loop-def
invariant-loop-def l = constants_at l.found.items ≡ constants_in (definitions_of (take l.def-index l.defs))
