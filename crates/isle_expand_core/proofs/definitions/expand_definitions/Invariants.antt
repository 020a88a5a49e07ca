use Rattle.std.proofs.Common.{◌≡◌, Some, drop, false}
use Rattle.isle_ast.specs.MacroArgs.{definitions_have_macro_arg}
use Rattle.isle_ast.specs.TreeView.{definitions_of}
use Rattle.isle_expand_core.specs.Definitions.{both, expand_definitions}
use Rattle.isle_expand_core.specs.Views.{macros_of}
use Rattle.isle_expand_core.proofs.definitions.expand_definitions.Given as goal

abbrev pub invariant-loop-def : goal.invariant-loop-def
invariant-loop-def l = record {
  made : both (Some (definitions_of l.made.items)) (expand_definitions (definitions_of l.defs) (definitions_of (drop l.def-index l.defs)) (macros_of l.macros))
      ≡ expand_definitions (definitions_of l.defs) (definitions_of l.defs) (macros_of l.macros);
  plain : definitions_have_macro_arg (definitions_of (drop l.def-index l.defs)) ≡ false;
}
