use Rattle.std.proofs.Common.{◌≡◌, take}
use Rattle.isle_ast.specs.TreeView.{definitions_of}
use Rattle.isle_check_environment.specs.Terms.{externs_in}
use Rattle.isle_check_environment.specs.Views.{externs_at}
use Rattle.isle_check_environment.proofs.terms.externs_in.Given as goal

abbrev pub invariant-loop-def : goal.invariant-loop-def
invariant-loop-def l = externs_at l.found.items ≡ externs_in (definitions_of (take l.def-index l.defs))
