use Rattle.std.proofs.Common.{◌≡◌, take}
use Rattle.isle_ast_verification.specs.TreeView.{single_model_fields_of}
use Rattle.isle_ast_verification.proofs.clone.+copy.Given as goal

abbrev pub invariant-copy_model_fields-loop-field : goal.invariant-copy_model_fields-loop-field
invariant-copy_model_fields-loop-field l =
    single_model_fields_of l.copies.items ≡ single_model_fields_of (take l.field-index l.field-items)
