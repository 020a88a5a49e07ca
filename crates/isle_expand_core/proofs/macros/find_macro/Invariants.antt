use Rattle.std.proofs.Common.{◌≡◌, drop}
use Rattle.isle_ast_names.specs.TreeView.{name_of}
use Rattle.isle_expand_core.specs.Macros.{meant}
use Rattle.isle_expand_core.specs.Views.{macros_of}
use Rattle.isle_expand_core.proofs.macros.find_macro.Given as goal

abbrev pub invariant-loop-known : goal.invariant-loop-known
invariant-loop-known l = meant (name_of l.sym).text (macros_of (drop l.known-index l.macros)) ≡ meant (name_of l.sym).text (macros_of l.macros)
