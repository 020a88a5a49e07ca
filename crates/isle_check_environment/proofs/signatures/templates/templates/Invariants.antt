use Rattle.std.proofs.Common.{◌≡◌, drop, false, take}
use Rattle.std.specs.List.{flat_map}
use Rattle.isle_ast.specs.MacroArgs.{definitions_have_macro_arg}
use Rattle.isle_ast.specs.TreeView.{definitions_of}
use Rattle.isle_ast_rules.specs.TreeView.{pattern_of}
use Rattle.isle_check_environment.specs.signatures.Entries.{Holds}
use Rattle.isle_check_environment.specs.signatures.Signatures.{template_entry}
use Rattle.isle_check_environment.proofs.signatures.templates.templates.Given as goal

abbrev pub invariant-loop-def : goal.invariant-loop-def
invariant-loop-def l = record {
  found : Holds pattern_of l.templates (flat_map template_entry (definitions_of (take l.def-index l.defs)));
  plain : definitions_have_macro_arg (definitions_of (drop l.def-index l.defs)) ≡ false;
}
