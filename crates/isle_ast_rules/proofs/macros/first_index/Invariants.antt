use Rattle.std.proofs.Common.{◌≡◌, drop}
use Rattle.isle_ast_rules.specs.Templates.{first_from, first_index}
use Rattle.isle_ast_names.specs.TreeView.{name_of, names_of}
use Rattle.isle_ast_rules.proofs.macros.first_index.Given as goal

abbrev pub invariant-loop-i : goal.invariant-loop-i
invariant-loop-i l = first_from l.i (name_of l.var).text (names_of (drop l.i l.names)) ≡ first_index (name_of l.var).text (names_of l.names)
