-- The fields on the tape are the last ones.
use Rattle.std.proofs.Common.{◌≡◌, drop}
use Rattle.isle_ast_verification.specs.TreeView.{model_list_of, single_model_fields_of}
use Rattle.isle_printer_layout.specs.Pieces.{put_before}
use Rattle.isle_printer_verification.specs.SpecShapes.{model_field_shapes}
use Rattle.isle_printer_verification.proofs.models.+model_types.Given as goal

abbrev pub invariant-each_field-loop-at : goal.invariant-each_field-loop-at
invariant-each_field-loop-at l =
    l.tape ≡ put_before (model_field_shapes (model_list_of (single_model_fields_of (drop l.at l.fields)))) l.fn.tape
