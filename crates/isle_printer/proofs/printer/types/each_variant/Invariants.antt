-- The variants on the tape are the last ones.
use Rattle.std.proofs.Common.{◌≡◌, drop, map}
use Rattle.isle_ast.specs.TreeView.{variant_of}
use Rattle.isle_printer.specs.DefinitionShapes.{variant_shape}
use Rattle.isle_printer_layout.specs.Pieces.{put_before}
use Rattle.isle_printer.proofs.printer.types.each_variant.Given as goal

abbrev pub invariant-loop-at : goal.invariant-loop-at
invariant-loop-at l = l.tape ≡ put_before (map variant_shape (map variant_of (drop l.at l.variants))) l.fn.tape
