use Rattle.std.proofs.Common.{◌≡◌, take}
use Rattle.isle_ast.specs.TreeView.{definitions_of}
use Rattle.isle_check_environment.specs.Parts.{converters_in}
use Rattle.isle_check_environment.specs.Views.{converters_at}
use Rattle.isle_check_environment.proofs.parts.converters_in.Given as goal

abbrev pub invariant-loop-def : goal.invariant-loop-def
invariant-loop-def l = converters_at l.found.items ≡ converters_in (definitions_of (take l.def-index l.defs))
