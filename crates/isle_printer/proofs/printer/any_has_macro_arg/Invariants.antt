-- A macro argument is in what is left, if there is one.
use Rattle.std.proofs.Common.{◌≡◌, drop}
use Rattle.isle_ast.specs.MacroArgs.{definitions_have_macro_arg}
use Rattle.isle_ast.specs.TreeView.{definitions_of}
use Rattle.isle_printer.proofs.printer.any_has_macro_arg.Given as goal

abbrev pub invariant-loop-def : goal.invariant-loop-def
invariant-loop-def l =
    definitions_have_macro_arg (definitions_of (drop l.def-index l.defs)) ≡ definitions_have_macro_arg (definitions_of l.defs)
