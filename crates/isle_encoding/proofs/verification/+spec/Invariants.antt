use Rattle.std.proofs.Common.{◌≡◌, ◌++◌, drop, string_bytes}
use Rattle.isle_ast_verification.specs.TreeView.{arm_list_of, field_init_list_of, single_arms_of, single_field_inits_of, single_spec_lets_of, spec_let_list_of, spec_list_of, specs_of}
use Rattle.isle_encoding.specs.Verification.{arm_list, arms, field_init_list, field_inits, spec_let_list, spec_lets, spec_list, specs}
use Rattle.isle_encoding.proofs.verification.+spec.Given as goal

abbrev pub invariant-put_spec_exprs-loop-value : goal.invariant-put_spec_exprs-loop-value
invariant-put_spec_exprs-loop-value l =
    string_bytes l.out ++ specs (spec_list_of (specs_of (drop l.value-index l.value-items))) ≡
    string_bytes l.fn.out ++ spec_list (spec_list_of (specs_of l.value-items))

abbrev pub invariant-put_arms-loop-value : goal.invariant-put_arms-loop-value
invariant-put_arms-loop-value l =
    string_bytes l.out ++ arms (arm_list_of (single_arms_of (drop l.value-index l.value-items))) ≡
    string_bytes l.fn.out ++ arm_list (arm_list_of (single_arms_of l.value-items))

abbrev pub invariant-put_spec_lets-loop-value : goal.invariant-put_spec_lets-loop-value
invariant-put_spec_lets-loop-value l =
    string_bytes l.out ++ spec_lets (spec_let_list_of (single_spec_lets_of (drop l.value-index l.value-items))) ≡
    string_bytes l.fn.out ++ spec_let_list (spec_let_list_of (single_spec_lets_of l.value-items))

abbrev pub invariant-put_field_inits-loop-value : goal.invariant-put_field_inits-loop-value
invariant-put_field_inits-loop-value l =
    string_bytes l.out ++ field_inits (field_init_list_of (single_field_inits_of (drop l.value-index l.value-items))) ≡
    string_bytes l.fn.out ++ field_init_list (field_init_list_of (single_field_inits_of l.value-items))
