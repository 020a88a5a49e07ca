use Rattle.std.proofs.Common.{◌≡◌, false, map, take}
use Rattle.isle_ast.specs.MacroArgs.{definitions_have_macro_arg}
use Rattle.isle_ast.specs.TreeView.{definitions_of}
use Rattle.isle_c.specs.Programs.{IsProgram}
use Rattle.isle_c.proofs.programs.definitions.Given as goal

abbrev pub invariant-loop-file : goal.invariant-loop-file
invariant-loop-file l = record {
  program : IsProgram (map (λ text. text.now) (take l.file l.texts)) (definitions_of l.defs.items);
  plain : definitions_have_macro_arg (definitions_of l.defs.items) ≡ false;
}
