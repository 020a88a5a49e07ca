use Rattle.std.proofs.Common.{◌≡◌, ◌++◌, drop, false, map}
use Rattle.isle_ast.specs.MacroArgs.{definitions_have_macro_arg}
use Rattle.isle_ast.specs.TreeView.{definitions_of}
use Rattle.isle_expand_core.specs.Macros.{macros_in}
use Rattle.isle_expand_core.specs.Views.{begun_of}
use Rattle.isle_expand_core.proofs.macros.templates.Given as goal

abbrev pub invariant-loop-def : goal.invariant-loop-def
invariant-loop-def l = record {
  found : map begun_of l.found.items ++ macros_in (definitions_of (drop l.def-index l.defs)) ≡ macros_in (definitions_of l.defs);
  plain : definitions_have_macro_arg (definitions_of (drop l.def-index l.defs)) ≡ false;
}
