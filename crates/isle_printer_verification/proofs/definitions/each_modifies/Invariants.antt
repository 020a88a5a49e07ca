-- The states on the tape are the last ones.
use Rattle.std.proofs.Common.{◌≡◌, drop, map}
use Rattle.isle_ast_verification.specs.TreeView.{modified_of}
use Rattle.isle_printer_layout.specs.Pieces.{put_before}
use Rattle.isle_printer_verification.specs.SpecShapes.{modifies_shape}
use Rattle.isle_printer_verification.proofs.definitions.each_modifies.Given as goal

abbrev pub invariant-loop-at : goal.invariant-loop-at
invariant-loop-at l = l.tape ≡ put_before (map modifies_shape (map modified_of (drop l.at l.states))) l.fn.tape
