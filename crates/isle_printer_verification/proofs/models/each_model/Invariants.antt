-- The models on the tape are the last ones.
use Rattle.std.proofs.Common.{◌≡◌, drop, map}
use Rattle.isle_ast_verification.specs.TreeView.{type_model_of}
use Rattle.isle_printer_layout.specs.Pieces.{put_before}
use Rattle.isle_printer_verification.specs.SpecShapes.{model_shape}
use Rattle.isle_printer_verification.proofs.models.each_model.Given as goal

abbrev pub invariant-loop-at : goal.invariant-loop-at
invariant-loop-at l = l.tape ≡ put_before (map model_shape (map type_model_of (drop l.at l.models))) l.fn.tape
