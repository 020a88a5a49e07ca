-- What is written is the printed text of the definitions so far. A macro argument is in what
-- is left, if there is one. The looks so far, and the nodes that are left, are the looks at first
-- and all nodes.
use Rattle.std.proofs.Common.{◌≡◌, ◌≤◌, ◌+◌, drop, string_bytes, take}
use Rattle.isle_ast.specs.MacroArgs.{definitions_have_macro_arg}
use Rattle.isle_ast.specs.TreeView.{definitions_of}
use Rattle.isle_printer.specs.Printed.{printed_text}
use Rattle.isle_printer.specs.PrintedNodes.{nodes_of_definitions}
use Rattle.isle_printer.proofs.printer.put_definitions.Given as goal

abbrev pub invariant-loop-def : goal.invariant-loop-def
invariant-loop-def l = record {
  text : string_bytes l.out ≡ printed_text l.width (definitions_of (take l.def-index l.defs));
  plain :
      definitions_have_macro_arg (definitions_of (drop l.def-index l.defs))
      ≡ definitions_have_macro_arg (definitions_of l.defs);
  looks :
      l.looks.count + nodes_of_definitions (definitions_of (drop l.def-index l.defs))
      ≡ l.fn.looks.count + nodes_of_definitions (definitions_of l.defs);
  none_taken : l.fn.looks.count ≤ l.looks.count;
}
