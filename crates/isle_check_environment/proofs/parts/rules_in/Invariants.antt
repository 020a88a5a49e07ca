use Rattle.std.proofs.Common.{◌≡◌, take}
use Rattle.isle_ast.specs.TreeView.{definitions_of}
use Rattle.isle_check_environment.specs.Parts.{rules_in}
use Rattle.isle_check_environment.specs.Views.{rules_at}
use Rattle.isle_check_environment.proofs.parts.rules_in.Given as goal

abbrev pub invariant-loop-def : goal.invariant-loop-def
invariant-loop-def l = rules_at l.found.items ≡ rules_in (definitions_of (take l.def-index l.defs))
