use Rattle.std.proofs.Common.{◌≡◌, ◌++◌, drop, string_bytes}
use Rattle.isle_ast_verification.specs.TreeView.{model_list_of, single_model_fields_of}
use Rattle.isle_encoding.specs.Verification.{model_field_list, model_fields}
use Rattle.isle_encoding.proofs.verification.+model.Given as goal

abbrev pub invariant-put_model_fields-loop-value : goal.invariant-put_model_fields-loop-value
invariant-put_model_fields-loop-value l =
    string_bytes l.out ++ model_fields (model_list_of (single_model_fields_of (drop l.value-index l.value-items))) ≡
    string_bytes l.fn.out ++ model_field_list (model_list_of (single_model_fields_of l.value-items))
