-- The signatures on the tape are the last ones.
use Rattle.std.proofs.Common.{◌≡◌, drop, map}
use Rattle.isle_ast.specs.TreeView.{signatures_of}
use Rattle.isle_printer.specs.DefinitionShapes.{signature_shape}
use Rattle.isle_printer_layout.specs.Pieces.{put_before}
use Rattle.isle_printer.proofs.printer.models.each_signature.Given as goal

abbrev pub invariant-loop-at : goal.invariant-loop-at
invariant-loop-at l = l.tape ≡ put_before (map signature_shape (signatures_of (drop l.at l.signatures))) l.fn.tape
