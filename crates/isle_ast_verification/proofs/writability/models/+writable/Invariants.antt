use Rattle.std.proofs.Common.{◌≡◌, drop}
use Rattle.isle_ast_verification.specs.TreeView.{model_list_of, single_model_fields_of}
use Rattle.isle_ast_verification.specs.WritableDeciders.{are_writable_model_fields}
use Rattle.isle_ast_verification.proofs.writability.models.+writable.Given as goal

abbrev pub invariant-are_writable_fields-loop-field : goal.invariant-are_writable_fields-loop-field
invariant-are_writable_fields-loop-field l =
    are_writable_model_fields (model_list_of (single_model_fields_of (drop l.field-index l.field-items))) ≡ are_writable_model_fields (model_list_of (single_model_fields_of l.field-items))
