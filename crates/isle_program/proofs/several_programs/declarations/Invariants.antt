use Rattle.std.proofs.Common.{◌≡◌, ◌++◌, drop}
use Rattle.isle_ast.specs.TreeView.{definitions_of}
use Rattle.isle_program.specs.SeveralPrograms.{declared_terms}
use Rattle.isle_program.specs.SharedView.{terms_at}
use Rattle.isle_program.proofs.several_programs.declarations.Given as goal

abbrev pub invariant-loop-def : goal.invariant-loop-def
invariant-loop-def l = terms_at l.decls.items ++ declared_terms (definitions_of (drop l.def-index l.defs)) ≡ declared_terms (definitions_of l.defs)
