-- The kinds on the tape are the last ones.
use Rattle.std.proofs.Common.{◌≡◌, drop, map}
use Rattle.isle_ast.specs.TreeView.{kind_of}
use Rattle.isle_printer.specs.DefinitionShapes.{kind_shape}
use Rattle.isle_printer_layout.specs.Pieces.{put_before}
use Rattle.isle_printer.proofs.printer.terms.each_kind.Given as goal

abbrev pub invariant-loop-at : goal.invariant-loop-at
invariant-loop-at l = l.tape ≡ put_before (map kind_shape (map kind_of (drop l.at l.kinds))) l.fn.tape
