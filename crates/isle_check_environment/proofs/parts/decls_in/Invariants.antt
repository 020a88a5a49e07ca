use Rattle.std.proofs.Common.{◌≡◌, take}
use Rattle.isle_ast.specs.TreeView.{definitions_of}
use Rattle.isle_check_environment.specs.Parts.{decls_in}
use Rattle.isle_check_environment.specs.Views.{decls_at}
use Rattle.isle_check_environment.proofs.parts.decls_in.Given as goal

abbrev pub invariant-loop-def : goal.invariant-loop-def
invariant-loop-def l = decls_at l.found.items ≡ decls_in (definitions_of (take l.def-index l.defs))
