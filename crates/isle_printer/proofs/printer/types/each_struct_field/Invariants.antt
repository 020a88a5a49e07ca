-- The fields on the tape are the last ones.
use Rattle.std.proofs.Common.{◌≡◌, drop, map}
use Rattle.isle_ast.specs.TreeView.{named_field_of}
use Rattle.isle_printer.specs.DefinitionShapes.{named_field_shape}
use Rattle.isle_printer_layout.specs.Pieces.{put_before}
use Rattle.isle_printer.proofs.printer.types.each_struct_field.Given as goal

abbrev pub invariant-loop-at : goal.invariant-loop-at
invariant-loop-at l = l.tape ≡ put_before (map named_field_shape (map named_field_of (drop l.at l.fields))) l.fn.tape
