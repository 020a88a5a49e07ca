use Rattle.std.proofs.Common.{◌≡◌, take}
use Rattle.isle_ast.specs.TreeView.{definitions_of}
use Rattle.isle_check_environment.specs.Parts.{extractors_in}
use Rattle.isle_check_environment.specs.Views.{extractors_at}
use Rattle.isle_check_environment.proofs.parts.extractors_in.Given as goal

abbrev pub invariant-loop-def : goal.invariant-loop-def
invariant-loop-def l = extractors_at l.found.items ≡ extractors_in (definitions_of (take l.def-index l.defs))
